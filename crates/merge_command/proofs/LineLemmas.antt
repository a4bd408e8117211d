-- The lines of the new files, one after the other.
use Rattle.std.proofs.Common.{◌≡◌, ◌+◌, ◌<◌, ◌≤◌, refl, sym, ap, ap₂, ◌∙◌, ℕ, zero, suc, List, [], ◌∷◌, ◌++◌, length, map, take, get_or, arith}
use Rattle.std.proofs.lemmas.List.{map-append}
use Rattle.archive_open.specs.declared.files.FileEntry.{FileEntry}
use Rattle.archive_merge.specs.declared.file.Merged.{Merged}
use Rattle.file_lines.specs.Directory.{FileLine}
use Rattle.file_outcomes.specs.Taken.{line_of_taken}
use Rattle.file_outcomes.specs.declared.file_report.FileReport.{FileReport}
use Rattle.merge_command.specs.Came.{lines_by}

-- what is told of a file with what was merged of it
abbrev pub line_by : FileEntry → Merged → FileLine
line_by f m = record { name = f.name; messages = m.messages; whole = m.whole }

pub lines_next : (files : List FileEntry) (ms : List Merged) (place : ℕ) (f : FileEntry) (m : Merged) → place < length ms → length ms ≤ length files
    → lines_by files (take (suc place) ms) ≡ lines_by files (take place ms) ++ line_by (get_or files place f) (get_or ms place m) ∷ []
lines_next files [] place f m within few = absurd (omega (arith, within))
lines_next [] (x ∷ ms) place f m within few = absurd (omega (arith, few))
lines_next (y ∷ files) (x ∷ ms) zero f m within few = refl
lines_next (y ∷ files) (x ∷ ms) (suc place) f m within few = ap (λ ls. line_by y x ∷ ls) (lines_next files ms place f m (omega (arith, within)) (omega (arith, few)))

pub lines_more : (files : List FileEntry) (ms : List Merged) (place : ℕ) (f : FileEntry) (m : Merged) (lines more : List FileReport) (line : FileReport) → place < length ms → length ms ≤ length files
    → map line_of_taken lines ≡ lines_by files (take place ms) → more ≡ lines ++ line ∷ [] → line.name.now ≡ (get_or files place f).name → line.messages ≡ (get_or ms place m).messages → line.whole ≡ (get_or ms place m).whole
    → map line_of_taken more ≡ lines_by files (take (place + 1) ms)
lines_more files ms place f m lines more line within few before pushed name messages whole =
    let next : place + 1 ≡ suc place = omega arith in
    let is : line_of_taken line ≡ line_by (get_or files place f) (get_or ms place m) = λ i. record { name = name i; messages = messages i; whole = whole i } in
    ap (map line_of_taken) pushed
    ∙ (map-append line_of_taken lines (line ∷ [])
    ∙ (ap₂ (λ (ls : List FileLine) (l : FileLine). ls ++ l ∷ []) before is
    ∙ (sym (lines_next files ms place f m within few) ∙ ap (λ n. lines_by files (take n ms)) (sym next))))
