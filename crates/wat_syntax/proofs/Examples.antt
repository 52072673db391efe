-- A token of each kind, and a text that is it.
use Rattle.std.specs.Prelude.{[], if◌then◌else◌, Some, None, codes, refl}
use lib.Utf8.{encode}
use Rattle.wat_word.specs.Words.{keyword, reserved}
use Rattle.wat_lex.specs.Tokens.{piece, tokens_of}
use Rattle.wat_lex.specs.Values.{number_value, string_text}
use Rattle.wat_syntax.specs.declared.kind.Kind.{Kind}
use Rattle.wat_syntax.specs.declared.kind.Kind.TheVariants as k
use Rattle.wat_syntax.specs.Lexeme.{Lexeme, same_kind, IsToken}

-- the name a, the number 1, and the string 'on'
abbrev pub example : Kind → Lexeme
example kind = record {
  kind = kind;
  text = if same_kind kind k.Name then codes "a" else (if same_kind kind k.Quoted then codes "on" else []);
  number = if same_kind kind k.Number then Some 1 else None;
}

pub are_tokens : (kind : Kind) → IsToken (example kind)
unfolding encode tokens_of piece keyword reserved number_value string_text
are_tokens k.And = (codes "and", (codes "and", (refl, refl)), refl)
are_tokens k.As = (codes "as", (codes "as", (refl, refl)), refl)
are_tokens k.Asc = (codes "asc", (codes "asc", (refl, refl)), refl)
are_tokens k.Between = (codes "between", (codes "between", (refl, refl)), refl)
are_tokens k.Blocking = (codes "blocking", (codes "blocking", (refl, refl)), refl)
are_tokens k.By = (codes "by", (codes "by", (refl, refl)), refl)
are_tokens k.Char = (codes "char", (codes "char", (refl, refl)), refl)
are_tokens k.Checkpoint = (codes "checkpoint", (codes "checkpoint", (refl, refl)), refl)
are_tokens k.Commit = (codes "commit", (codes "commit", (refl, refl)), refl)
are_tokens k.Count = (codes "count", (codes "count", (refl, refl)), refl)
are_tokens k.Create = (codes "create", (codes "create", (refl, refl)), refl)
are_tokens k.Delete = (codes "delete", (codes "delete", (refl, refl)), refl)
are_tokens k.Desc = (codes "desc", (codes "desc", (refl, refl)), refl)
are_tokens k.Distinct = (codes "distinct", (codes "distinct", (refl, refl)), refl)
are_tokens k.Drop = (codes "drop", (codes "drop", (refl, refl)), refl)
are_tokens k.Foreign = (codes "foreign", (codes "foreign", (refl, refl)), refl)
are_tokens k.From = (codes "from", (codes "from", (refl, refl)), refl)
are_tokens k.Group = (codes "group", (codes "group", (refl, refl)), refl)
are_tokens k.Having = (codes "having", (codes "having", (refl, refl)), refl)
are_tokens k.In = (codes "in", (codes "in", (refl, refl)), refl)
are_tokens k.Index = (codes "index", (codes "index", (refl, refl)), refl)
are_tokens k.Insert = (codes "insert", (codes "insert", (refl, refl)), refl)
are_tokens k.Int = (codes "int", (codes "int", (refl, refl)), refl)
are_tokens k.Integer = (codes "integer", (codes "integer", (refl, refl)), refl)
are_tokens k.Into = (codes "into", (codes "into", (refl, refl)), refl)
are_tokens k.Is = (codes "is", (codes "is", (refl, refl)), refl)
are_tokens k.IsolationLevel = (codes "isolation_level", (codes "isolation_level", (refl, refl)), refl)
are_tokens k.Key = (codes "key", (codes "key", (refl, refl)), refl)
are_tokens k.Max = (codes "max", (codes "max", (refl, refl)), refl)
are_tokens k.Min = (codes "min", (codes "min", (refl, refl)), refl)
are_tokens k.Not = (codes "not", (codes "not", (refl, refl)), refl)
are_tokens k.Null = (codes "null", (codes "null", (refl, refl)), refl)
are_tokens k.Numeric = (codes "numeric", (codes "numeric", (refl, refl)), refl)
are_tokens k.Off = (codes "off", (codes "off", (refl, refl)), refl)
are_tokens k.On = (codes "on", (codes "on", (refl, refl)), refl)
are_tokens k.Option = (codes "option", (codes "option", (refl, refl)), refl)
are_tokens k.Or = (codes "or", (codes "or", (refl, refl)), refl)
are_tokens k.Order = (codes "order", (codes "order", (refl, refl)), refl)
are_tokens k.Primary = (codes "primary", (codes "primary", (refl, refl)), refl)
are_tokens k.References = (codes "references", (codes "references", (refl, refl)), refl)
are_tokens k.Release = (codes "release", (codes "release", (refl, refl)), refl)
are_tokens k.Restrict = (codes "restrict", (codes "restrict", (refl, refl)), refl)
are_tokens k.Rollback = (codes "rollback", (codes "rollback", (refl, refl)), refl)
are_tokens k.Savepoint = (codes "savepoint", (codes "savepoint", (refl, refl)), refl)
are_tokens k.Select = (codes "select", (codes "select", (refl, refl)), refl)
are_tokens k.Set = (codes "set", (codes "set", (refl, refl)), refl)
are_tokens k.Sum = (codes "sum", (codes "sum", (refl, refl)), refl)
are_tokens k.Table = (codes "table", (codes "table", (refl, refl)), refl)
are_tokens k.Temporary = (codes "temporary", (codes "temporary", (refl, refl)), refl)
are_tokens k.To = (codes "to", (codes "to", (refl, refl)), refl)
are_tokens k.Update = (codes "update", (codes "update", (refl, refl)), refl)
are_tokens k.Values = (codes "values", (codes "values", (refl, refl)), refl)
are_tokens k.Varchar = (codes "varchar", (codes "varchar", (refl, refl)), refl)
are_tokens k.Where = (codes "where", (codes "where", (refl, refl)), refl)
are_tokens k.Work = (codes "work", (codes "work", (refl, refl)), refl)
are_tokens k.Name = (codes "a", (codes "a", (refl, refl)), refl)
are_tokens k.Number = (codes "1", (codes "1", (refl, refl)), refl)
are_tokens k.Quoted = (codes "'on'", (codes "'on'", (refl, refl)), refl)
are_tokens k.Open = (codes "(", (codes "(", (refl, refl)), refl)
are_tokens k.Close = (codes ")", (codes ")", (refl, refl)), refl)
are_tokens k.Comma = (codes ",", (codes ",", (refl, refl)), refl)
are_tokens k.Semicolon = (codes ";", (codes ";", (refl, refl)), refl)
are_tokens k.Dot = (codes ".", (codes ".", (refl, refl)), refl)
are_tokens k.Star = (codes "*", (codes "*", (refl, refl)), refl)
are_tokens k.Plus = (codes "+", (codes "+", (refl, refl)), refl)
are_tokens k.Minus = (codes "-", (codes "-", (refl, refl)), refl)
are_tokens k.Slash = (codes "/", (codes "/", (refl, refl)), refl)
are_tokens k.Concat = (codes "||", (codes "||", (refl, refl)), refl)
are_tokens k.Equal = (codes "=", (codes "=", (refl, refl)), refl)
are_tokens k.Unequal = (codes "<>", (codes "<>", (refl, refl)), refl)
are_tokens k.Less = (codes "<", (codes "<", (refl, refl)), refl)
are_tokens k.AtMost = (codes "<=", (codes "<=", (refl, refl)), refl)
are_tokens k.Greater = (codes ">", (codes ">", (refl, refl)), refl)
are_tokens k.AtLeast = (codes ">=", (codes ">=", (refl, refl)), refl)
are_tokens k.Bad = (codes "?", (codes "?", (refl, refl)), refl)
