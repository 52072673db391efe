use Rattle.std.proofs.Common.{◌≡◌, ℕ, List, ◌∷◌, ◌++◌, [], length, drop, Some, refl, sym, ◌∙◌, ap, subst}
use Rattle.std.specs.List.{slice_get}
use Rattle.std.proofs.lemmas.List.{take_rest}
use Rattle.wat_list.specs.Reservation.{Reservation}
use Rattle.wat_schema.specs.Tables.{Tables}
use Rattle.wat_gate.specs.GateLog.{file_of}
use Rattle.wat_parse.specs.declared.script.Span.{Span}
use Rattle.wat_parse.specs.Statements.{statements_of}
use Rattle.wat_conn.specs.declared.session.Entry.{Entry}
use Rattle.wat_commit_log.specs.Logged.{log_file}
use Rattle.wat_alone.specs.Alone.{State}
use Rattle.wat_session.specs.Playing.{IsPlayed}
use Rattle.wat_session.specs.Session.{unanswered}
use Rattle.wat_session.proofs.Committing.{under_way}
use Rattle.wat_session.proofs.playing.play.Goals as goal

-- the one text is the first
the_text : (texts : List (List ℕ)) (one first : List ℕ) → texts ≡ one ∷ [] → slice_get texts 0 ≡ Some first → texts ≡ first ∷ []
the_text texts one first is at =
    let there : Some one ≡ Some first = subst (λ (l : List (List ℕ)). slice_get l 0 ≡ Some first) is at in
    let same : one ≡ first = cc in
    is ∙ ap (λ (t : List ℕ). t ∷ []) same

pub returns-clause-session : goal.returns-clause-session
returns-clause-session g c =
    let tells = g.D.Disk.tells_content in
    let entry = g.D.Disk.told c.args.disk.now in
    let now = g.D.Disk.told c.answer_until_stop-stop.new.disk in
    let base = c.args.opened.tables in
    let text = c.as_str-script.result.now in
    let stop = c.answer_until_stop-stop.result in
    let entries = c.answer_until_stop-stop.new.entries.items in
    let player = c.answer_until_stop-stop.new.player in
    let first : slice_get c.args.scripts 0 ≡ Some text = c.item.ensures ∙ ap Some (sym c.as_str-script.ensures) in
    let file : file_of c.in_ok-player.player.log ≡ log_file = ap file_of c.in_ok-player.ensures.log ∙ c.requires.file in
    let over : c.in_ok-player.player.connection.tables ≡ base = ap (λ (s : State). s.tables) c.in_ok-player.ensures.connection in
    let played : IsPlayed (under_way tells entry log_file base now) text entries stop player.moments.items player.names =
    subst (λ (f : ℕ). IsPlayed (under_way tells entry f base now) text entries stop player.moments.items player.names) file
    (subst (λ (t : Tables). IsPlayed (under_way tells entry (file_of c.in_ok-player.player.log) t now) text entries stop player.moments.items player.names) over c.answer_until_stop-stop.ensures.played) in
    let spans : c.as_slice-spans.result.now ≡ statements_of text = c.as_slice-spans.ensures ∙ c.in_ok-spans.ensures in
    record {
      scripts = refl;
      text = text;
      one_text = the_text c.args.scripts c.requires.one.text text c.requires.one.is first;
      transcript = c.push_unanswered.new.entries;
      one_transcript = c.into_items.ensures ∙ c.push.ensures.items ∙ ap (λ (l : List (Reservation Entry)). l ++ c.push_unanswered.new.entries ∷ []) c.in_ok-transcripts.ensures.items;
      answered = entries;
      last = played.last;
      turns = played.turns;
      entries = c.push_unanswered.ensures
          ∙ ap (λ (l : List Span). entries ++ unanswered stop l) (take_rest c.as_slice-spans.result.now c.len-3.result ∙ ap (λ (n : ℕ). drop n c.as_slice-spans.result.now) c.len-3.ensures ∙ ap (drop (length entries)) spans);
      names = played.named;
      leaves = played.leaves;
      stops = played.stops;
    }
