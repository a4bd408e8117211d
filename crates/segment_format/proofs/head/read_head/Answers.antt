use Rattle.std.proofs.Common.{◌≡◌, ◌-◌, ◌*◌, ℕ, List, length, take, drop, refl, sym, ap, ◌∙◌, to_z-of_z, arith}
use Rattle.std.specs.List.{flat_map}
use Rattle.std.specs.Int.{w64}
use Rattle.std.proofs.lemmas.List.{take_rest}
use Rattle.std.proofs.lemmas.Result.{err_from_is_err_and}
use Rattle.record_format.specs.Lists.{four_bytes}
use Rattle.segment_format.specs.Layout.{fixed_of, head_bytes, head_length}
use Rattle.segment_format.proofs.HeadLemmas.{head_front, head_length_is, head_fixed, head_types, head_words, with_lists, read_spelled}
use Rattle.segment_format.proofs.head.read_head.Goals as goal

pub returns-then-bytes-lt-FIXED_LEN-clause-malformed : goal.returns-then-bytes-lt-FIXED_LEN-clause-malformed
returns-then-bytes-lt-FIXED_LEN-clause-malformed c = λ _ h is e. absurd (omega (arith, head_length_is c.args.bytes.now h e, c.if-bytes-lt-FIXED_LEN.true))

pub returns-in_default-clause-malformed : goal.returns-in_default-clause-malformed
returns-in_default-clause-malformed c = λ _ h is e. c.in_default.ensures.none refl (fixed_of h) is.fixed (head_front c.args.bytes.now h e)

pub returns-then-bytes-head_len-clause-malformed : goal.returns-then-bytes-head_len-clause-malformed
returns-then-bytes-head_len-clause-malformed c = λ _ h is e.
    let same = head_fixed c.args.bytes.now h e c.in-Some.fixed c.in-Some.ensures.fits is c.in-Some.ensures.spelled in
    c.if-bytes-head_len.true (head_length_is c.args.bytes.now h e ∙ ap head_length (sym same) ∙ sym c.head_len.ensures)

pub returns-in_err-list_in-clause-malformed : goal.returns-in_err-list_in-clause-malformed
returns-in_err-list_in-clause-malformed c =
    let p = err_from_is_err_and c.from_residual.result c.from_residual.ensures.1 in
    λ was h is e.
    let bytes : List ℕ = c.args.bytes.now in
    let same = head_fixed bytes h e c.in-Some.fixed c.in-Some.ensures.fits is c.in-Some.ensures.spelled in
    let n : ℕ = c.in-Some.fixed.types in
    let rest : take (length bytes - 45) (drop 45 bytes) ≡ drop 45 bytes = take_rest bytes 45 in
    c.list_in.ensures.malformed (cc (c.in_err-list_in.was, p.1, p.2)) h.types is.types
    (c.split_at.ensures.front ∙ ap (take (4 * n)) rest ∙ head_types bytes h e n (ap (λ f. f.types) same))

pub returns-in_err-list_in-2-clause-malformed : goal.returns-in_err-list_in-2-clause-malformed
returns-in_err-list_in-2-clause-malformed c =
    let p = err_from_is_err_and c.from_residual-in_err-list_in-2.result c.from_residual-in_err-list_in-2.ensures.1 in
    λ was h is e.
    let bytes : List ℕ = c.args.bytes.now in
    let same = head_fixed bytes h e c.in-Some.fixed c.in-Some.ensures.fits is c.in-Some.ensures.spelled in
    let n : ℕ = c.in-Some.fixed.types in
    let rest : take (length bytes - 45) (drop 45 bytes) ≡ drop 45 bytes = take_rest bytes 45 in
    c.list_in-2.ensures.malformed (cc (c.in_err-list_in-2.was, p.1, p.2)) h.words is.words
    (c.split_at.ensures.back ∙ ap (drop (4 * n)) rest ∙ head_words bytes h e n (ap (λ f. f.types) same))

pub returns-clause-spelled : goal.returns-clause-spelled
returns-clause-spelled c =
    let bytes : List ℕ = c.args.bytes.now in
    let f = c.in-Some.fixed in
    let is_f = c.in-Some.ensures.fits in
    let types = c.in_ok-list_in.field-0 in
    let words = c.in_ok-list_in-2.field-0 in
    let rest : take (length bytes - 45) (drop 45 bytes) ≡ drop 45 bytes = take_rest bytes 45 in
    let front : take (4 * f.types) (drop 45 bytes) ≡ flat_map four_bytes types = ap (take (4 * f.types)) (sym rest) ∙ sym c.split_at.ensures.front ∙ c.in_ok-list_in.ensures.spelled in
    let back : drop (4 * f.types) (drop 45 bytes) ≡ flat_map four_bytes words = ap (drop (4 * f.types)) (sym rest) ∙ sym c.split_at.ensures.back ∙ c.in_ok-list_in-2.ensures.spelled in
    let long : length bytes ≡ head_length f = omega (arith, c.if-bytes-head_len.false, c.head_len.ensures) in
    let least = to_z-of_z {w = w64} {z = f.least} is_f.least in
    let greatest = to_z-of_z {w = w64} {z = f.greatest} is_f.greatest in
    read_spelled bytes f types words c.in-Some.ensures.spelled is_f c.in_ok-list_in.ensures.is c.in_ok-list_in-2.ensures.is front back long
    ∙ ap head_bytes (λ i. record (with_lists f types words) { least = sym least i; greatest = sym greatest i })
