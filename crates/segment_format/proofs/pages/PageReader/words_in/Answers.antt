use Rattle.std.proofs.Common.{◌≡◌, ◌<◌, ◌+◌, ◌*◌, ◌^◌, ℕ, List, length, map, take, drop, sum, refl, sym, ap, subst, ◌∙◌, rules, arith}
use Rattle.column_store.specs.Row.{variable_count}
use Rattle.segment_format.specs.Spelled.{AreColumnsIn}
use Rattle.segment_format.specs.Pages.{Pages, FitsPage}
use Rattle.segment_format.proofs.PagesLemmas.{page_length, page_variables, counts_there, counts_fit, counts_sum}
use Rattle.segment_format.proofs.pages.PageReader.words_in.Goals as goal

pub returns-then-bytes-rows-clause-malformed : goal.returns-then-bytes-rows-clause-malformed
returns-then-bytes-rows-clause-malformed c = λ _ list is.
    absurd (omega (arith, page_length c.args.self.now c.args.bytes.now list is, c.requires.rows, c.if-bytes-rows.true))

pub returns-in_default-clause-malformed : goal.returns-in_default-clause-malformed
returns-in_default-clause-malformed c = λ _ list is.
    let p : Pages = c.args.self.now in
    let bytes : List ℕ = c.args.bytes.now in
    let n : ℕ = c.args.rows in
    let v : ℕ = variable_count list in
    let small : v < 2 ^ 32 = page_variables p bytes list c.words_by.ensures.few is in
    let columns : AreColumnsIn bytes n v list = subst (λ (k : ℕ). AreColumnsIn bytes k v list) (sym c.requires.rows) is.columns in
    let counts : c.split_at-2.result.0.now ≡ take (4 * n) (drop (13 * n) bytes) = c.split_at-2.ensures.front ∙ ap (take (4 * n)) c.split_at.ensures.back in
    let fit = counts_fit bytes n v list small columns in
    c.in_default.ensures.none refl (map (λ r. length r.words) list) fit.0 (counts ∙ counts_there bytes n v list columns) (subst (FitsPage p) (sym fit.1) is.fits)

pub returns-then-words-from-clause-malformed : goal.returns-then-words-from-clause-malformed
returns-then-words-from-clause-malformed c = λ _ list is.
    let p : Pages = c.args.self.now in
    let bytes : List ℕ = c.args.bytes.now in
    let n : ℕ = c.args.rows in
    let v : ℕ = variable_count list in
    let small : v < 2 ^ 32 = page_variables p bytes list c.words_by.ensures.few is in
    let columns : AreColumnsIn bytes n v list = subst (λ (k : ℕ). AreColumnsIn bytes k v list) (sym c.requires.rows) is.columns in
    let counts : c.split_at-2.result.0.now ≡ take (4 * n) (drop (13 * n) bytes) = c.split_at-2.ensures.front ∙ ap (take (4 * n)) c.split_at.ensures.back in
    let found = c.in-Some.ensures.some in
    let total : sum found.0 ≡ v = counts_sum bytes n v list found.0 small columns found.1 (sym counts ∙ found.2) in
    let back : length c.split_at-2.result.1.now + 17 * n ≡ length bytes = omega (arith, c.split_at-2.ensures.back_len, c.split_at.ensures.back_len) in
    let words : length c.split_at-2.result.1.now ≡ 8 * c.in-Some.count = omega (arith, back, page_length p bytes list is, c.requires.rows, total, found.4) in
    c.if-words-from.true (search (rules, words))
