-- Laws of what moves one file after the other, which its trait asks for.
use Rattle.std.proofs.Common.{◌≡◌, ◌≢◌, ℕ, ◌≤◌, List, sym, refl, ap, ◌∙◌, subst, Option, None, Some, arith, IsSome, ◌+◌, ◌++◌, length, slice_get}
use Rattle.std.proofs.lemmas.Option.{slice_get_within}
use Rattle.log_seams.specs.Disk.{DiskState}
use Rattle.log_seams.proofs.MomentLemmas.{rests_on}
use Rattle.log_seams.specs.declared.disk.Disk.{Ghosts as DiskGhosts}
use Rattle.row_codec.specs.declared.namer.Which.{Which}
use Rattle.row_codec.specs.declared.namer.Which.TheVariants.{Types, Words}
use Rattle.row_codec.specs.declared.names.Names.{Ghosts as NamesGhosts}
use Rattle.log_seams.proofs.ReadsLemmas.{rests_same}
use Rattle.archive_open.specs.declared.segments.SegmentPlace.{SegmentPlace}
use Rattle.ingest_fork.specs.Works.{ArePieces}
use Rattle.ingest_fork.proofs.PlaceLemmas.{at_right, in_left}
use Rattle.dict_lock.specs.Cached.{pass_in}
use Rattle.disk_seal.specs.Fixed.{KeeperPass}
use Rattle.archive_merge.specs.declared.file.Merged.{Merged}
use Rattle.archive_merge.specs.declared.merger.BookPasses.{BookPasses}
use Rattle.archive_merge.specs.declared.merger.Merger.{Merger}
use Rattle.archive_merge.specs.declared.merger.Stopped.{Stopped}
use Rattle.archive_merge.specs.Needed.{IsNeeded}
use Rattle.archive_merge.specs.PassLaws.{adds_none, adds_then, adds_wider, goes_self}
use Rattle.archive_merge.specs.Taken.{Serves, texts_by}
use Rattle.archive_merge.specs.Merger.{IsIdle, IsOneOf, IsReachedOf, MayMoveFile, MayName, MovesOn, PassesAdd, books_of, needed_in, passes_in, passes_of}

pub passes_self : (P : Which → List ℕ → Type 0) (b : BookPasses) → MayName b → PassesAdd P b b
passes_self P b may = record {
  types = adds_none (P Types) (pass_in b.types) (pass_in b.types) (goes_self (pass_in b.types) may.types_ready) refl;
  words = adds_none (P Words) (pass_in b.words) (pass_in b.words) (goes_self (pass_in b.words) may.words_ready) refl;
}

pub passes_then : (P : Which → List ℕ → Type 0) (a b c : BookPasses) → PassesAdd P a b → PassesAdd P b c → PassesAdd P a c
passes_then P a b c one two = record {
  types = adds_then (P Types) (pass_in a.types) (pass_in b.types) (pass_in c.types) one.types two.types;
  words = adds_then (P Words) (pass_in a.words) (pass_in b.words) (pass_in c.words) one.words two.words;
}

pub passes_wider : (P Q : Which → List ℕ → Type 0) → ((book : Which) (t : List ℕ) → P book t → Q book t)
    → (b c : BookPasses) → PassesAdd P b c → PassesAdd Q b c
passes_wider P Q wider b c adds = record {
  types = adds_wider (P Types) (Q Types) (wider Types) (pass_in b.types) (pass_in c.types) adds.types;
  words = adds_wider (P Words) (Q Words) (wider Words) (pass_in b.words) (pass_in c.words) adds.words;
}

abbrev or_these : BookPasses → Option BookPasses → BookPasses
or_these c None = c
or_these c (Some b) = b

pub passes_in_is : (o : Option BookPasses) (some : IsSome o) (b : BookPasses) → o ≡ Some b → passes_in o some ≡ b
passes_in_is None none b is = absurd (cc (is))
passes_in_is (Some c) some b is = ap (or_these c) is

module _ {M E : Type 0} {G : NamesGhosts M} {H : DiskGhosts E} (types words : M → List (List ℕ)) (version : M → ℕ)
    (state : E → DiskState) where
  -- what is needed of files stays so
  pub needed_same : (js js' : List Merged) (a b : Merger M E G H) (files : List Merged)
      → MovesOn types words version state js js' a b
      → needed_in types words version state b files ≡ needed_in types words version state a files
  needed_same js js' a b files one = λ i. IsNeeded (texts_by types words (one.second_is.names i).now) (one.second_is.rests.seen i)
      (IsReachedOf (version (one.second_is.names i).now) (texts_by types words (one.second_is.names i).now)
      (one.second_is.rests.seen i) (one.second_is.segments i).now (one.first_is i) (length files) files)

  pub rests : (js js' : List Merged) (w : Merger M E G H) → IsIdle types words version w
      → MovesOn types words version state js js' w w
  rests js js' w idle = record {
    first_is = refl;
    second_is = record { lent = refl; names = refl; segments = refl; rests = rests_same (state w.second.disk.now) };
    later = omega arith;
    adds = passes_self (needed_in types words version state w js') (passes_of w) idle.may;
    stop_is = λ some. refl;
    passes_are = λ some. refl;
    stopped_by = λ none s some. absurd (cc (none, some));
  }

  pub goes_on : (js js' : List Merged) (a b c : Merger M E G H) → MovesOn types words version state js js' a b
      → MovesOn types words version state js js' b c → MovesOn types words version state js js' a c
  goes_on js js' a b c one two = record {
    first_is = two.first_is ∙ one.first_is;
    second_is = record {
      lent = two.second_is.lent ∙ one.second_is.lent;
      names = two.second_is.names ∙ one.second_is.names;
      segments = two.second_is.segments ∙ one.second_is.segments;
      rests = rests_on (state a.second.disk.now) (state b.second.disk.now) (state c.second.disk.now)
          one.second_is.rests two.second_is.rests;
    };
    later = omega (arith, one.later, two.later);
    adds = passes_then (needed_in types words version state a js') (passes_of a) (passes_of b) (passes_of c) one.adds
        (subst (λ P. PassesAdd P (passes_of b) (passes_of c)) (needed_same js js' a b js' one) two.adds);
    stop_is = λ some. two.stop_is (subst (λ s. s ≢ None) (sym (one.stop_is some)) some) ∙ one.stop_is some;
    passes_are = λ some. two.passes_are (subst (λ s. s ≢ None) (sym (one.stop_is some)) some) ∙ one.passes_are some;
    stopped_by = λ none s some. by_stop none s some b.stop refl;
  }
    where
      by_stop : a.stop ≡ None → (s : Stopped) → c.stop ≡ Some s → (o : Option Stopped) → b.stop ≡ o → IsOneOf js s
      by_stop none s some None is = two.stopped_by is s some
      by_stop none s some (Some x) is =
          let same : c.stop ≡ b.stop = two.stop_is (λ no. absurd (cc (no, is))) in one.stopped_by none s (sym same ∙ some)

  pub wider : (js js' piece piece' : List Merged) (a b : Merger M E G H) → ArePieces js js' piece piece'
      → MovesOn types words version state piece piece' a b → MovesOn types words version state js js' a b
  wider js js' piece piece' a b are one = record {
    first_is = one.first_is;
    second_is = one.second_is;
    later = one.later;
    adds = passes_wider (needed_in types words version state a piece') (needed_in types words version state a js')
        (λ book t (place, reached, is). (place, further place reached, is)) (passes_of a) (passes_of b) one.adds;
    stop_is = one.stop_is;
    passes_are = one.passes_are;
    stopped_by = λ none s some. of_piece s (one.stopped_by none s some);
  }
    where
      further : (place : SegmentPlace)
          → IsReachedOf (version a.second.names.now) (texts_by types words a.second.names.now) (state a.second.disk.now).seen
          a.second.segments.now a.first (length piece') piece' place
          → IsReachedOf (version a.second.names.now) (texts_by types words a.second.names.now) (state a.second.disk.now).seen
          a.second.segments.now a.first (length js') js' place
      further place r =
          let at = ap (λ l. slice_get l (length are.before' + r.number)) are.cut'
          ∙ (at_right are.before' (piece' ++ are.behind') r.number
          ∙ (in_left piece' are.behind' r.number (slice_get_within piece' r.number r.file r.is) ∙ r.is)) in
          let within = slice_get_within js' (length are.before' + r.number) r.file at in record {
            number = length are.before' + r.number;
            file = r.file;
            is = at;
            upto = omega (arith, within);
            there = r.there;
            reached = r.reached;
          }

      of_piece : (s : Stopped) → IsOneOf piece s → IsOneOf js s
      of_piece s (i, j, at, file) = (
        length are.before + i,
        j,
        ap (λ l. slice_get l (length are.before + i)) are.cut ∙ (at_right are.before (piece ++ are.behind) i
            ∙ (in_left piece are.behind i (slice_get_within piece i j at) ∙ at)),
        file,
      )

  module _ {D : Type 0} (state_first : D → DiskState) where
    pub fits_on : (js js' : List Merged) (a b : Merger M E G H) (j : Merged) (k : KeeperPass D)
        → MovesOn types words version state js js' a b → MayMoveFile types words version state_first a j k
        → MayMoveFile types words version state_first b j k
    fits_on js js' a b j k one may = record {
      above = subst (λ n. n ≤ j.file) (sym one.first_is) may.above;
      new = may.new;
      ready = may.ready;
      opening = may.opening;
      types_lock = λ x is. one.adds.types.goes.still.lock ∙ may.types_lock x is;
      words_lock = λ x is. one.adds.words.goes.still.lock ∙ may.words_lock x is;
      version_is = λ x is. ap (λ n. version n.now) one.second_is.names ∙ may.version_is x is;
    }

module _ {M E : Type 0} {G : NamesGhosts M} {H : DiskGhosts E} (types words : M → List (List ℕ)) (version : M → ℕ) where
  -- it is between two files with these passes
  pub idle_with : (w : Merger M E G H) (b : BookPasses) → w.passes ≡ Some b → MayName b
      → Serves (version w.second.names.now) (texts_by types words w.second.names.now) (books_of b) w.second.taker
      → IsIdle types words version w
  idle_with w b had may serves = let same = passes_in_is w.passes w.full b had in record {
    may = subst MayName (sym same) may;
    serves = subst
        (λ x. Serves (version w.second.names.now) (texts_by types words w.second.names.now) (books_of x) w.second.taker)
        (sym same) serves;
  }
