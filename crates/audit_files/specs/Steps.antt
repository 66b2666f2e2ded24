-- What the steps of reading a file promise one another: what the lines of a text say, and slices as one store.
-- Proof machinery. Rests on Entries and the declared Store.
use Rattle.std.specs.Prelude.{ℕ, List, length}
use Rattle.audit_files.specs.declared.Entry.{Entry}
use Rattle.audit_files.specs.declared.files.Store.{Store}
use Rattle.audit_files.specs.Entries.{entries_of}

-- what the lines of a text say
abbrev pub entries_in : List ℕ → List Entry
entries_in text = entries_of (length text) text

-- the postings read so far, as the slices hold them
abbrev pub store : (kinds firsts seconds amounts wheres : List ℕ) → Store
store kinds firsts seconds amounts wheres = record { kinds = kinds; firsts = firsts; seconds = seconds; amounts = amounts; wheres = wheres }
