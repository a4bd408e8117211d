-- A header and its 32 bytes.
use Rattle.std.proofs.Common.{◌≡◌, ℕ, List, [], ◌++◌, length, drop, refl, sym, ap, ◌∙◌, arith}
use Rattle.std.proofs.lemmas.List.{take-append-drop, drop_all}
use Rattle.byteorder.specs.Endian.{little_bytes, little_number}
use Rattle.byteorder.specs.Numbers.{little_number-reads_back}
use Rattle.record_format.specs.declared.header.Header.{Header}
use Rattle.record_format.specs.Header.{IsHeader, IsLaidOut, mark, header_bytes, header_in}
use Rattle.record_format.proofs.NumberLemmas.{IsBytes, number_at_place}

abbrev pub header : ℕ → ℕ → ℕ → ℕ → Header
header v t m k = record { version = v; types_limit = t; words_limit = m; length_limit = k }

pub length-header_bytes : (h : Header) → length (header_bytes h) ≡ 32
unfolding header_bytes
length-header_bytes h = refl

pub laid_out : (h : Header) → IsLaidOut (header_bytes h)
unfolding header_bytes
laid_out h = (refl, refl)

pub same_header : {v w t u m n k l : ℕ} → v ≡ w → t ≡ u → m ≡ n → k ≡ l
    → header v t m k ≡ header w u n l
same_header {v} {w} {t} {u} {m} {n} {k} {l} version types words length = rw (version, types, words, length) refl

-- what is written is read back
pub header_in-header_bytes : (h : Header) → IsHeader h → header_in (header_bytes h) ≡ h
unfolding header_bytes
header_in-header_bytes h is =
    let tail : List ℕ = little_bytes 4 0 ++ little_bytes 8 h.length_limit in
    let version : (header_in (header_bytes h)).version ≡ h.version = little_number-reads_back 4 h.version (little_bytes 4 h.types_limit ++ little_bytes 4 h.words_limit ++ tail) (omega (arith, is.most_version)) in
    let types : (header_in (header_bytes h)).types_limit ≡ h.types_limit = little_number-reads_back 4 h.types_limit (little_bytes 4 h.words_limit ++ tail) (omega (arith, is.most_types)) in
    let words : (header_in (header_bytes h)).words_limit ≡ h.words_limit = little_number-reads_back 4 h.words_limit tail (omega (arith, is.most_words)) in
    let limit : (header_in (header_bytes h)).length_limit ≡ h.length_limit = little_number-reads_back 8 h.length_limit [] (omega (arith, is.most_length)) in
    same_header version types words limit

-- no 32 bytes spell two headers
pub one_header : (g h : Header) → IsHeader g → IsHeader h → header_bytes g ≡ header_bytes h → g ≡ h
one_header g h is_g is_h e = sym (header_in-header_bytes g is_g) ∙ ap header_in e ∙ header_in-header_bytes h is_h

-- what is read was written
pub header_bytes-header_in : (bytes : List ℕ) → IsBytes bytes → length bytes ≡ 32 → IsLaidOut bytes → bytes ≡ header_bytes (header_in bytes)
unfolding header_bytes
header_bytes-header_in bytes fits len laid =
    let n1 : ℕ = little_number 4 (drop 8 bytes) in
    let n2 : ℕ = little_number 4 (drop 12 bytes) in
    let n3 : ℕ = little_number 4 (drop 16 bytes) in
    let n5 : ℕ = little_number 8 (drop 24 bytes) in
    let e1 = number_at_place 4 8 12 bytes fits (omega arith) refl in
    let e2 = number_at_place 4 12 16 bytes fits (omega arith) refl in
    let e3 = number_at_place 4 16 20 bytes fits (omega arith) refl in
    let e4 = number_at_place 4 20 24 bytes fits (omega arith) refl in
    let e5 = number_at_place 8 24 32 bytes fits (omega arith) refl in
    let end : drop 32 bytes ≡ [] = drop_all 32 bytes (omega arith) in
    let t5 : drop 24 bytes ≡ little_bytes 8 n5 = e5 ∙ ap (λ (x : List ℕ). little_bytes 8 n5 ++ x) end in
    let t4 : drop 20 bytes ≡ little_bytes 4 0 ++ little_bytes 8 n5 = e4 ∙ ap (λ (n : ℕ). little_bytes 4 n ++ drop 24 bytes) laid.1 ∙ ap (λ (x : List ℕ). little_bytes 4 0 ++ x) t5 in
    let t3 : drop 16 bytes ≡ little_bytes 4 n3 ++ (little_bytes 4 0 ++ little_bytes 8 n5) = e3 ∙ ap (λ (x : List ℕ). little_bytes 4 n3 ++ x) t4 in
    let t2 : drop 12 bytes ≡ little_bytes 4 n2 ++ (little_bytes 4 n3 ++ (little_bytes 4 0 ++ little_bytes 8 n5)) = e2 ∙ ap (λ (x : List ℕ). little_bytes 4 n2 ++ x) t3 in
    let t1 : drop 8 bytes ≡ little_bytes 4 n1 ++ (little_bytes 4 n2 ++ (little_bytes 4 n3 ++ (little_bytes 4 0 ++ little_bytes 8 n5))) = e1 ∙ ap (λ (x : List ℕ). little_bytes 4 n1 ++ x) t2 in
    sym (take-append-drop 8 bytes) ∙ ap (λ (x : List ℕ). x ++ drop 8 bytes) laid.0 ∙ ap (λ (x : List ℕ). mark ++ x) t1
