-- The report of a refusal: its number on the first line, then what is refused, with file and line.
-- Rests on amounts and printer for texts, and on audit_files' Refused. File 0 holds the postings, file p + 1 is site p's.
use Rattle.std.specs.Prelude.{ℕ, ◌-◌, ◌/◌, ◌%◌, cond, List, ◌++◌, eqb}
use Rattle.printer.specs.Output.{decimal, newline}
use Rattle.amounts.specs.Amounts.{text}
use Rattle.audit_files.specs.declared.Refused.{Refused}

unfoldable pub file_words : ℕ → List ℕ
file_words file = cond (eqb file 0) (text "the postings' file") (text "site " ++ (decimal (file - 1) ++ text "'s file"))

-- "site 2's file, line 7"
unfoldable pub line_words : (file line : ℕ) → List ℕ
line_words file line = file_words file ++ (text ", line " ++ decimal line)

-- what is wrong with a line, by the number of the refusal; where the posting was read is 8 times the line, and the file
unfoldable pub fault_words : (code other : ℕ) → List ℕ
fault_words code other =
    cond (eqb code 5) (text " has fields outside the row of its kind.\n")
    (cond (eqb code 7) (text " is not in the postings' file.\n")
    (cond (eqb code 8) (text " has other fields in " ++ (line_words (other % 8) (other / 8) ++ text ".\n")) (text " stands on line " ++ (decimal (other / 8) ++ text " already.\n"))))

unfoldable pub reason_words : (code number other : ℕ) → List ℕ
reason_words code number other =
    cond (eqb code 4) (text "not number,kind,a,b,amount, nor, in a record beside a file of postings, a number.\n") (text "posting " ++ (decimal number ++ fault_words code other))

-- a file that could not be read, or that is too long
unfoldable pub unread_words : (file long : ℕ) → List ℕ
unread_words file long = cond (eqb long 0) (text "This file cannot be read: ") (text "This file has 2097152 bytes or more: ") ++ (file_words file ++ text ".\n")

-- 1 and 2 have no file, 3 no line: its number says whether the file was too long
unfoldable pub refusal_words : Refused → List ℕ
refusal_words r =
    cond (eqb r.code 1) (text "There must be one to seven records.\n")
    (cond (eqb r.code 2) (text "The matrix must be symmetric and have the fixed pairs.\n")
    (cond (eqb r.code 3) (unread_words r.file r.number)
    (text "In " ++ (line_words r.file r.line ++ (text ": " ++ reason_words r.code r.number r.other)))))

unfoldable pub refused_text : Refused → List ℕ
refused_text r = text "NOT AUDITED " ++ (decimal r.code ++ (newline ++ refusal_words r))
