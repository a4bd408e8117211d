-- A buffer that is filled from a file in several reads, and bytes that are written in several writes.
use Rattle.std.proofs.Common.{◌≡◌, refl, sym, ◌∙◌, ap, ap₂, ℕ, ◌+◌, ◌-◌, ◌≤◌, add-zero, List, ◌++◌, length, take, drop, Option, Some, None, option_map, arith}
use Rattle.std.specs.Prelude.{IfSome}
use Rattle.std.proofs.lemmas.List.{append-nil, append_assoc, length-append, length-take, take-append-drop, take-append-le, drop-drop}
use Rattle.std.proofs.lemmas.Slice.{take-put_mid_below}
use Rattle.std.proofs.Math.Seq.{take-add, take-append-add, take-append_seam, drop-append_seam}
use borrow.Rule.Slice.PartMut.{put_mid, post_of}
use Rattle.log_seams.specs.Disk.{laid}
use Rattle.host_files.specs.Offset.{GaveSome}

-- the first so many of the buffer are the bytes at the offset
pub record Filled (bytes : List ℕ) (at n : ℕ) (buf : List ℕ) : Type 0 where
  pub there : n ≤ length bytes - at
  pub are : take n buf ≡ take n (drop at bytes)

-- the front of a buffer, and then the front of what was put behind it
take-put_mid_into : (n k m : ℕ) (buf part : List ℕ) → n ≤ length buf → k ≤ length part → take (n + k) (put_mid n m buf part) ≡ take n buf ++ take k part
take-put_mid_into n k m buf part fits short =
    ap (λ i. take (i + k) (put_mid n m buf part)) size ∙ take-append-add (take n buf) (part ++ post_of n m buf) k ∙ ap (λ t. take n buf ++ t) (take-append-le k part (post_of n m buf) short)
  where
    size : n ≡ length (take n buf)
    size = omega (arith, length-take n buf)

-- one read more, behind what was filled
pub Filled-more : (o : Option (List ℕ)) (buf part : List ℕ) (at n k m : ℕ) → n ≤ length buf → k ≤ length part → IfSome o (λ bytes. Filled bytes at n buf) → GaveSome o (at + n) k part → IfSome o (λ bytes. Filled bytes at (n + k) (put_mid n m buf part))
Filled-more None buf part at n k m fits short f gave = tt
Filled-more (Some bytes) buf part at n k m fits short f gave = record {
  there = omega (arith, f.there, gave.0);
  are = take-put_mid_into n k m buf part fits short ∙ (ap₂ (λ a b. a ++ b) f.are (gave.1 ∙ ap (take k) (sym (drop-drop n at bytes))) ∙ sym (take-add n k (drop at bytes)));
}

-- a read that was interrupted left what was filled
pub Filled-same : (o : Option (List ℕ)) (buf part : List ℕ) (at n m : ℕ) → n ≤ length buf → IfSome o (λ bytes. Filled bytes at n buf) → IfSome o (λ bytes. Filled bytes at n (put_mid n m buf part))
Filled-same None buf part at n m fits f = tt
Filled-same (Some bytes) buf part at n m fits f = record { there = f.there; are = take-put_mid_below n m buf part n (omega arith) fits ∙ f.are }

-- bytes written behind bytes that were written
laid-laid : (at : ℕ) (front back old : List ℕ) → at ≤ length old → laid (at + length front) back (laid at front old) ≡ laid at (front ++ back) old
laid-laid at front back old there =
    ap₂ (λ a b. (a ++ back) ++ b) first rest ∙ ap₂ (λ a n. a ++ drop n old) (append_assoc (take at old) front back) long
  where
    size : at + length front ≡ length (take at old ++ front)
    size = omega (arith, length-take at old, length-append (take at old) front)

    first : take (at + length front) (laid at front old) ≡ take at old ++ front
    first = ap (λ n. take n (laid at front old)) size ∙ take-append_seam (take at old ++ front) (drop (at + length front) old)

    behind : drop (at + length front) (laid at front old) ≡ drop (at + length front) old
    behind = ap (λ n. drop n (laid at front old)) size ∙ drop-append_seam (take at old ++ front) (drop (at + length front) old)

    rest : drop (at + length front + length back) (laid at front old) ≡ drop (at + length front + length back) old
    rest = sym (drop-drop (length back) (at + length front) (laid at front old)) ∙ (ap (drop (length back)) behind ∙ drop-drop (length back) (at + length front) old)

    long : at + length front + length back ≡ at + length (front ++ back)
    long = omega (arith, length-append front back)

-- nothing is written yet
pub Laid-nothing : (o : Option (List ℕ)) (bytes : List ℕ) (at : ℕ) → IfSome o (λ old. at ≤ length old) → o ≡ option_map (laid at (take 0 bytes)) o
Laid-nothing None bytes at there = refl
Laid-nothing (Some old) bytes at there = ap Some (sym (ap₂ (λ a n. a ++ drop n old) (append-nil (take at old)) (add-zero at) ∙ take-append-drop at old))

-- one write more, of the first k of the bytes that are left
pub Laid-more : (o mid new : Option (List ℕ)) (bytes : List ℕ) (at n k : ℕ) → IfSome o (λ old. at ≤ length old) → n ≤ length bytes → mid ≡ option_map (laid at (take n bytes)) o → new ≡ option_map (laid (at + n) (take k (drop n bytes))) mid → new ≡ option_map (laid at (take (n + k) bytes)) o
Laid-more None mid new bytes at n k there fits was is = is ∙ ap (option_map (laid (at + n) (take k (drop n bytes)))) was
Laid-more (Some old) mid new bytes at n k there fits was is =
    is ∙ (ap (option_map (laid (at + n) (take k (drop n bytes)))) was ∙ ap Some (ap (λ i. laid (at + i) (take k (drop n bytes)) (laid at (take n bytes) old)) size ∙ (laid-laid at (take n bytes) (take k (drop n bytes)) old there ∙ ap (λ b. laid at b old) (sym (take-add n k bytes)))))
  where
    size : n ≡ length (take n bytes)
    size = omega (arith, length-take n bytes)
