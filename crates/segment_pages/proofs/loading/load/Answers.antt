use Rattle.std.proofs.Common.{◌≡◌, ◌≤◌, ◌+◌, ◌*◌, ℕ, List, length, drop, take, arith, rules, ap, subst, ◌++◌, ◌∙◌, refl}
use Rattle.segment_pages.specs.StepsLoaded.{EndsBefore}
use Rattle.std.proofs.lemmas.Result.{err_from_is_err_and}
use Rattle.segment_format.specs.declared.ask.PageAsk.{PageAsk}
use Rattle.segment_format.specs.Pages.{page_rows}
use Rattle.segment_pages.specs.Paged.{paged, columns_size, payload_size}
use Rattle.segment_pages.proofs.PageLemmas.{ask_told, counts_told, front_joined, front_kept, loaded_told, short_told, words_told}
use Rattle.segment_pages.proofs.ReadLemmas.{columns_fixed, columns_words, reads_on, reads_wider}
use Rattle.segment_pages.proofs.loading.load.Goals as goal

pub returns-in_err-fill_fixed-clause-reads : goal.returns-in_err-fill_fixed-clause-reads
returns-in_err-fill_fixed-clause-reads g c =
    let within = columns_fixed (paged c.args.at c.args.pages.now) c.args.ask.now c.requires.ask c.requires.left in
    c.fill_fixed.ensures.reads (c.args.at + c.args.pages.now.start) (columns_size c.args.pages.now) within.0 within.1

pub returns-in_default-clause-reads : goal.returns-in_default-clause-reads
returns-in_default-clause-reads g c =
    let within = columns_fixed (paged c.args.at c.args.pages.now) c.args.ask.now c.requires.ask c.requires.left in
    c.fill_fixed.ensures.reads (c.args.at + c.args.pages.now.start) (columns_size c.args.pages.now) within.0 within.1

pub returns-in_err-grow-2-clause-reads : goal.returns-in_err-grow-2-clause-reads
returns-in_err-grow-2-clause-reads g c =
    let within = columns_fixed (paged c.args.at c.args.pages.now) c.args.ask.now c.requires.ask c.requires.left in
    c.fill_fixed.ensures.reads (c.args.at + c.args.pages.now.start) (columns_size c.args.pages.now) within.0 within.1

pub returns-in_default-clause-damaged : goal.returns-in_default-clause-damaged
returns-in_default-clause-damaged g c = λ _.
    let rows : c.args.ask.now.rows ≡ page_rows c.args.pages.now = ap (λ (a : PageAsk). a.rows) c.requires.ask in
    let size : length c.fill_fixed.new.buffer ≡ 17 * page_rows c.args.pages.now = omega (arith, rows, c.split_at_mut-bytes.ensures.front_len, c.fill_fixed.auto.buffer) in
    counts_told _ (paged c.args.at c.args.pages.now) c.fill_fixed.new.buffer _ (record { left = c.requires.left; few = c.requires.few })
    (ask_told _ c.args.at c.args.ask.now c.args.pages.now c.fill_fixed.new.buffer c.requires.ask c.in_ok-fill_fixed.ensures.filled) size
    (c.split_at.ensures.back ∙ ap (λ (k : ℕ). drop (13 * k) c.fill_fixed.new.buffer) rows) (c.in_default.ensures.none refl)

pub returns-in_err-fill-clause-reads : goal.returns-in_err-fill-clause-reads
returns-in_err-fill-clause-reads g c =
    let p = paged c.args.at c.args.pages.now in
    let within = columns_fixed p c.args.ask.now c.requires.ask c.requires.left in
    let found = c.in-Some.ensures.some in
    let words = columns_words p c.args.ask.now _ c.requires.ask c.requires.left found.3.most in
    reads_on _ _ _ _ _ (c.fill_fixed.ensures.reads (c.args.at + c.args.pages.now.start) (columns_size c.args.pages.now) within.0 within.1)
    (reads_wider _ _ _ _ c.fill.ensures.reads (c.args.at + c.args.pages.now.start) (columns_size c.args.pages.now) words.0 (omega (arith, words.1, found.4, c.split_at_mut-words.ensures.front_len)))

pub returns-clause-reads : goal.returns-clause-reads
returns-clause-reads g c =
    let p = paged c.args.at c.args.pages.now in
    let within = columns_fixed p c.args.ask.now c.requires.ask c.requires.left in
    let found = c.in-Some.ensures.some in
    let words = columns_words p c.args.ask.now _ c.requires.ask c.requires.left found.3.most in
    reads_on _ _ _ _ _ (c.fill_fixed.ensures.reads (c.args.at + c.args.pages.now.start) (columns_size c.args.pages.now) within.0 within.1)
    (reads_wider _ _ _ _ c.fill.ensures.reads (c.args.at + c.args.pages.now.start) (columns_size c.args.pages.now) words.0 (omega (arith, words.1, found.4, c.split_at_mut-words.ensures.front_len)))

pub returns-in_err-fill-clause-damaged : goal.returns-in_err-fill-clause-damaged
returns-in_err-fill-clause-damaged g c = λ is.
    let p = paged c.args.at c.args.pages.now in
    let found = c.in-Some.ensures.some in
    let words = columns_words p c.args.ask.now _ c.requires.ask c.requires.left found.3.most in
    let within = columns_fixed p c.args.ask.now c.requires.ask c.requires.left in
    let reads = c.fill_fixed.ensures.reads (c.args.at + c.args.pages.now.start) (columns_size c.args.pages.now) within.0 within.1 in
    let q = err_from_is_err_and c.from_residual-in_err-fill.result c.from_residual-in_err-fill.ensures.1 in
    let end : ℕ = c.args.at + c.args.ask.now.variables + length c.split_at_mut-words.result.0.now in
    let le : end ≤ c.args.at + payload_size c.args.pages.now = omega (arith, words.1, found.4, c.split_at_mut-words.ensures.front_len) in
    short_told end _ p le
    (subst (EndsBefore end) reads.rests.seen (c.in_err-fill.ensures.damaged (search (rules, is, q.1, q.2))))

pub returns-clause-loaded : goal.returns-clause-loaded
returns-clause-loaded g c =
    let p = paged c.args.at c.args.pages.now in
    let within = columns_fixed p c.args.ask.now c.requires.ask c.requires.left in
    let reads = c.fill_fixed.ensures.reads (c.args.at + c.args.pages.now.start) (columns_size c.args.pages.now) within.0 within.1 in
    let found = c.in-Some.ensures.some in
    let rows : c.args.ask.now.rows ≡ page_rows c.args.pages.now = ap (λ (a : PageAsk). a.rows) c.requires.ask in
    let fixed : List ℕ = c.fill_fixed.new.buffer in
    let words : List ℕ = c.fill.new.buffer in
    let size : length fixed ≡ 17 * page_rows c.args.pages.now = omega (arith, rows, c.split_at_mut-bytes.ensures.front_len, c.fill_fixed.auto.buffer) in
    let front : c.split_at_mut-behind.result.0.now ≡ fixed =
    c.split_at_mut-behind.ensures.front ∙ ap (take (17 * c.args.ask.now.rows)) c.as_mut_slice-2.ensures.value
    ∙ front_kept fixed c.split_at_mut-bytes.result.1.now _ _ (17 * c.args.ask.now.rows) _ (omega (arith, size, rows)) (search rules) c.in_ok-grow-2.ensures.kept in
    let few : length words ≡ c.in-Some.more = omega (arith, c.split_at_mut-words.ensures.front_len, c.fill.auto.buffer) in
    let whole = front_joined c.split_at_mut-behind.result.0.now words c.split_at_mut-words.result.1.now _ (17 * c.args.ask.now.rows + c.in-Some.more) _
    (omega (arith, c.split_at_mut-behind.ensures.front_len, few)) (search rules) in
    loaded_told _ p fixed words _ _ found.0
    (ask_told _ c.args.at c.args.ask.now c.args.pages.now fixed c.requires.ask c.in_ok-fill_fixed.ensures.filled) size
    (c.split_at.ensures.back ∙ ap (λ (k : ℕ). drop (13 * k) fixed) rows) found.1 found.2
    (words_told _ _ words _ _ _ _ reads.rests.seen (omega (arith, c.split_at_mut-words.ensures.front_len, found.4)) (ap (λ (a : PageAsk). c.args.at + a.variables) c.requires.ask) c.in_ok-fill.ensures.filled)
    (whole ∙ ap (λ (l : List ℕ). l ++ words) front)
