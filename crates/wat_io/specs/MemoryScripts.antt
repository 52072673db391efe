use Rattle.std.specs.Prelude.{ℕ, Bool, List, string_bytes}
use Rattle.wat_io.specs.Scripts.{Texts, text_under}
use Rattle.wat_io.specs.Calls as calls
use Rattle.wat_io.specs.declared.memory_scripts.MemoryScripts.{MemoryScripts}

-- the text under each name
abbrev pub texts_of : MemoryScripts → Texts
texts_of scripts = text_under string_bytes (λ text. text.items) scripts.names.items scripts.texts.items

-- the names that were asked for
abbrev pub asked_of : MemoryScripts → List (List ℕ)
asked_of scripts = scripts.asked.names

-- the numbers of the reads that fail, from 0
abbrev pub fails_of : MemoryScripts → List ℕ
fails_of scripts = scripts.reads.failing.items

-- how many reads were made, which is the next one's number
abbrev pub reads_of : MemoryScripts → ℕ
reads_of scripts = scripts.reads.made

-- whether the next read is one of those that fail
abbrev pub is_to_fail : MemoryScripts → Bool
is_to_fail scripts = calls.is_to_fail scripts.reads

-- how often a read has failed
abbrev pub faults_of : MemoryScripts → ℕ
faults_of scripts = scripts.reads.faults
