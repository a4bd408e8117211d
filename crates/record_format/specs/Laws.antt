-- No bytes spell two values.
use Rattle.std.specs.Prelude.{◌≡◌, ◌<◌, ◌^◌, ℕ, List}
use Rattle.record_format.specs.declared.header.Header.{Header}
use Rattle.record_format.specs.Header.{IsHeader, header_bytes}
use Rattle.record_format.specs.Lists.{AreTexts, files_payload, texts_payload}

abbrev pub HeadersAreUnique : Type 0
HeadersAreUnique = (g h : Header) → IsHeader g → IsHeader h → header_bytes g ≡ header_bytes h → g ≡ h

abbrev pub FilesAreUnique : Type 0
FilesAreUnique = (ms ns : List (List ℕ)) → AreTexts ms → AreTexts ns → files_payload ms ≡ files_payload ns → ms ≡ ns

abbrev pub TextsAreUnique : Type 0
TextsAreUnique =
    (m n : ℕ) (ms ns : List (List ℕ))
    → m < 2 ^ 32 → n < 2 ^ 32
    → AreTexts ms → AreTexts ns
    → texts_payload m ms ≡ texts_payload n ns
    → (m ≡ n) × (ms ≡ ns)
