-- How what a namer knows grows, and the texts that stand at places of a line.
use Rattle.std.proofs.Common.{◌≡◌, ℕ, ◌<◌, List, [], ◌++◌, length, get_or, refl, sym, ◌∙◌, ap, append_assoc}
use Rattle.logtype_text.specs.declared.spans.Span.{Span}
use Rattle.logtype_text.specs.Encoded.{texts_at}
use Rattle.std.proofs.lemmas.List.{append-nil, get_or-map, length-map}
use Rattle.std.proofs.lemmas.List.Elements.{All-append, All-nil}
use Rattle.std.specs.Prelude.{slice_range}
use Rattle.row_codec.specs.Naming.{HasGrown, Known}

pub grows_self : (P : List ℕ → Type 0) (known : Known) → HasGrown P known known
grows_self P known = record { limit = refl; front = ([], append-nil known.texts); more = []; added = sym (append-nil known.added); allowed = All-nil P }

pub grows_then : (P : List ℕ → Type 0) (a b c : Known) → HasGrown P a b → HasGrown P b c → HasGrown P a c
grows_then P a b c one two = record {
  limit = two.limit ∙ one.limit;
  front = (one.front.0 ++ two.front.0, sym (append_assoc a.texts one.front.0 two.front.0) ∙ ap (λ l. l ++ two.front.0) one.front.1 ∙ two.front.1);
  more = one.more ++ two.more;
  added = two.added ∙ ap (λ l. l ++ two.more) one.added ∙ append_assoc a.added one.more two.more;
  allowed = All-append P one.more two.more one.allowed two.allowed;
}

-- the text at a place of the line
pub text_here : (line : List ℕ) (spans : List Span) (i : ℕ) (d : Span) → i < length spans → get_or (texts_at line spans) i [] ≡ slice_range line (get_or spans i d).start (get_or spans i d).end
text_here line spans i d low = get_or-map (λ (s : Span). slice_range line s.start s.end) spans i d [] low

pub texts_long : (line : List ℕ) (spans : List Span) → length (texts_at line spans) ≡ length spans
texts_long line spans = length-map spans (λ (s : Span). slice_range line s.start s.end)
