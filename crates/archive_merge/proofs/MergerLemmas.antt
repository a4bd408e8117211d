-- What one file more makes of what moves them.
use Rattle.std.proofs.Common.{◌≡◌, ℕ, ◌≤◌, ◌-◌, arith, List, [], ◌∷◌, sym, ap, ◌∙◌, subst, Option, None, Some, refl}
use Rattle.std.specs.Prelude.{All, Err, IfErr, IsErrOf, Ok, Result, false, is_none, is_ok, is_some, true}
use Rattle.log_seams.specs.Disk.{DiskState}
use Rattle.log_seams.specs.Outside.{CountsOf}
use Rattle.log_seams.specs.declared.disk.Disk.{Ghosts as DiskGhosts}
use Rattle.logtype_text.specs.Fair.{IsFairType, IsFairWord}
use Rattle.row_codec.specs.declared.names.Names.{Ghosts as NamesGhosts}
use Rattle.archive_open.specs.declared.segments.SegmentPlace.{SegmentPlace}
use Rattle.archive_open.specs.OfFile.{is_of}
use Rattle.std.specs.List.{Contains, filter}
use Rattle.std.specs.List.Sorted.{IsNonDecreasingBy}
use Rattle.disk_seal.specs.Fixed.{KeeperPass}
use Rattle.archive_merge.specs.declared.cause.MergeCause.{MergeCause}
use Rattle.archive_merge.specs.declared.cause.MergeCause.TheVariants.{SecondDamaged, SecondFault}
use Rattle.archive_merge.specs.declared.file.Merged.{Merged}
use Rattle.archive_merge.specs.declared.merger.BookPasses.{BookPasses}
use Rattle.archive_merge.specs.declared.merger.Merger.{Merger}
use Rattle.archive_merge.specs.declared.merger.Stopped.{Stopped}
use Rattle.archive_merge.specs.Causes.{HasMoveCause}
use Rattle.archive_merge.specs.Files.{CameOver}
use Rattle.archive_merge.specs.Needed.{IsNeeded}
use Rattle.archive_merge.specs.Runs.{HoldRun, IsReached, SoFar, nothing_so_far}
use Rattle.archive_merge.specs.Taken.{Serves, texts_by}
use Rattle.archive_merge.specs.Merger.{DidFile, GoesWith, IsIdle, IsOneOf, IsReachedOf, IsStopFor, MayName, MovesOn, PassesAdd, StaysRead, books_of, file_at, needed_in, passes_of}
use Rattle.archive_merge.specs.MergerLaws.{passes_in_is, passes_wider}

pub none_some : {A : Type 0} (o : Option A) → is_some o ≡ false → o ≡ None
none_some None is = refl
none_some (Some x) is = absurd (cc (is))

pub stopped_file : (s t : Stopped) → Some s ≡ Some t → t.file ≡ s.file
stopped_file s t is = let same : s ≡ t = cc (is) in ap (λ (x : Stopped). x.file) (sym same)

of_err : {T E : Type 0} (r : Result T E) (P : E → Type 0) (e : E) → r ≡ Err e → IfErr r P → P e
of_err (Ok x) P e is p = absurd (cc (is))
of_err (Err y) P e is p = let same : y ≡ e = cc (is) in subst P same p

module _ {M E D : Type 0} {G : NamesGhosts M} {H : DiskGhosts E} (types words : M → List (List ℕ)) (version : M → ℕ) (state : D → DiskState) (state_second : E → DiskState)
    (w v : Merger M E G H) (b c : BookPasses) (j j' : Merged) (k k' : KeeperPass D) (had : w.passes ≡ Some b) (has : v.passes ≡ Some c) (stays : StaysRead state_second w.second v.second) where
  before_is : passes_of w ≡ b
  before_is = passes_in_is w.passes w.full b had

  after_is : passes_of v ≡ c
  after_is = passes_in_is v.passes v.full c has

  pub idle_now : GoesWith (version w.second.names.now) (texts_by types words w.second.names.now) k' c v.second.taker → IsIdle types words version v
  idle_now goes = record {
    may = subst MayName (sym after_is) goes.may;
    serves = subst (λ n. Serves (version n.now) (texts_by types words n.now) (books_of (passes_of v)) v.second.taker) (sym stays.names)
        (subst (λ x. Serves (version w.second.names.now) (texts_by types words w.second.names.now) (books_of x) v.second.taker) (sym after_is) goes.serves);
  }

  -- what was named for the file is what rows of it need that were reached
  adds_one : (places : List SegmentPlace) → ((place : SegmentPlace) → Contains places place → Contains w.second.segments.now place)
      → (IsNonDecreasingBy file_at w.second.segments.now → places ≡ filter (is_of (j.file - w.first)) w.second.segments.now) → j'.file ≡ j.file
      → PassesAdd (IsNeeded (texts_by types words w.second.names.now) (state_second w.second.disk.now).seen (IsReached (version w.second.names.now) (texts_by types words w.second.names.now) places (state_second w.second.disk.now).seen j'.messages)) b c
      → PassesAdd (needed_in types words version state_second w (j' ∷ [])) (passes_of w) (passes_of v)
  adds_one places among are file adds = subst (λ x. PassesAdd (needed_in types words version state_second w (j' ∷ [])) x (passes_of v)) (sym before_is)
      (subst (λ x. PassesAdd (needed_in types words version state_second w (j' ∷ [])) b x) (sym after_is)
      (passes_wider (IsNeeded (texts_by types words w.second.names.now) (state_second w.second.disk.now).seen (IsReached (version w.second.names.now) (texts_by types words w.second.names.now) places (state_second w.second.disk.now).seen j'.messages))
      (needed_in types words version state_second w (j' ∷ [])) (λ book t (place, r, is). (place, of_file place r, is)) b c adds))
    where
      of_file : (place : SegmentPlace) → IsReached (version w.second.names.now) (texts_by types words w.second.names.now) places (state_second w.second.disk.now).seen j'.messages place
          → IsReachedOf (version w.second.names.now) (texts_by types words w.second.names.now) (state_second w.second.disk.now).seen w.second.segments.now w.first 1 (j' ∷ []) place
      of_file place r = record {
        number = 0;
        file = j';
        is = refl;
        upto = omega arith;
        there = among place r.there;
        reached = λ sorted. subst (λ n. IsReached (version w.second.names.now) (texts_by types words w.second.names.now) (filter (is_of (n - w.first)) w.second.segments.now) (state_second w.second.disk.now).seen j'.messages place) (sym file)
            (subst (λ l. IsReached (version w.second.names.now) (texts_by types words w.second.names.now) l (state_second w.second.disk.now).seen j'.messages place) (are sorted) r);
      }

  pub moves_on : v.first ≡ w.first → (state_second w.second.disk.now).faults ≤ (state_second v.second.disk.now).faults
      → (places : List SegmentPlace) → ((place : SegmentPlace) → Contains places place → Contains w.second.segments.now place)
      → (IsNonDecreasingBy file_at w.second.segments.now → places ≡ filter (is_of (j.file - w.first)) w.second.segments.now) → j'.file ≡ j.file
      → PassesAdd (IsNeeded (texts_by types words w.second.names.now) (state_second w.second.disk.now).seen (IsReached (version w.second.names.now) (texts_by types words w.second.names.now) places (state_second w.second.disk.now).seen j'.messages)) b c → w.stop ≡ None
      → ((s : Stopped) → v.stop ≡ Some s → IsOneOf (j ∷ []) s) → MovesOn types words version state_second (j ∷ []) (j' ∷ []) w v
  moves_on first later places among are file named none stopped = record {
    first_is = first;
    second_is = stays;
    later = later;
    adds = adds_one places among are file named;
    stop_is = λ some. absurd (some none);
    passes_are = λ some. absurd (some none);
    stopped_by = λ was s is. stopped s is;
  }

  module _ (places : List SegmentPlace) (are : IsNonDecreasingBy file_at w.second.segments.now → places ≡ filter (is_of (j.file - w.first)) w.second.segments.now) (none : w.stop ≡ None)
      (among : (place : SegmentPlace) → Contains places place → Contains w.second.segments.now place) (same_file : j'.file ≡ j.file)
      (named : PassesAdd (IsNeeded (texts_by types words w.second.names.now) (state_second w.second.disk.now).seen (IsReached (version w.second.names.now) (texts_by types words w.second.names.now) places (state_second w.second.disk.now).seen j'.messages)) b c) where
    -- the file was moved
    pub did_all : v.stop ≡ None → CameOver state (version w.second.names.now) (texts_by types words w.second.names.now) places (state_second w.second.disk.now).seen true k k' j j'
        → DidFile types words version state state_second w j k v j' k'
    did_all still came = record {
      waited = λ some. absurd (some none);
      moved = λ was. record {
        places = places;
        are = are;
        adds = adds_one places among are same_file named;
        came = subst (λ t. CameOver state (version w.second.names.now) (texts_by types words w.second.names.now) places (state_second w.second.disk.now).seen t k k' j j') (sym (ap is_none still)) came;
        stopped = λ s is. absurd (cc (still, is));
      };
    }

    -- it was not, and why
    pub did_some : (r : Result (Unit {0}) MergeCause) (s : Stopped) → r ≡ Err s.cause → v.stop ≡ Some s → s.file ≡ j'.file
        → CameOver state (version w.second.names.now) (texts_by types words w.second.names.now) places (state_second w.second.disk.now).seen (is_ok r) k k' j j'
        → IfErr r (HasMoveCause state (version w.second.names.now) (texts_by types words w.second.names.now) places (state_second w.second.disk.now).seen j'.messages k k' (books_of c))
        → (IsErrOf r SecondDamaged → (bytes : List ℕ) (all : SoFar) → (state_second w.second.disk.now).seen ≡ Some bytes → All IsFairType (types w.second.names.now) → All IsFairWord (words w.second.names.now)
        → ¬ HoldRun (version w.second.names.now) (texts_by types words w.second.names.now) bytes places nothing_so_far all)
        → CountsOf SecondFault (state_second w.second.disk.now).faults (state_second v.second.disk.now).faults r
        → DidFile types words version state state_second w j k v j' k'
    did_some r s is stop file came causes damaged disk = record {
      waited = λ some. absurd (some none);
      moved = λ was. record {
        places = places;
        are = are;
        adds = adds_one places among are same_file named;
        came = subst (λ t. CameOver state (version w.second.names.now) (texts_by types words w.second.names.now) places (state_second w.second.disk.now).seen t k k' j j') not_ok came;
        stopped = λ t at. subst (λ x. IsStopFor types words version state state_second w j k v j' k' places x) (only t at) here;
      };
    }
      where
        not_ok : is_ok r ≡ is_none v.stop
        not_ok = ap is_ok is ∙ sym (ap is_none stop)

        only : (t : Stopped) → v.stop ≡ Some t → s ≡ t
        only t at = cc (stop, at)

        here : IsStopFor types words version state state_second w j k v j' k' places s
        here = record {
          file = file ∙ came.same_file;
          cause = subst (λ x. HasMoveCause state (version w.second.names.now) (texts_by types words w.second.names.now) places (state_second w.second.disk.now).seen j'.messages k k' (books_of x) s.cause) (sym after_is)
              (of_err r (HasMoveCause state (version w.second.names.now) (texts_by types words w.second.names.now) places (state_second w.second.disk.now).seen j'.messages k k' (books_of c)) s.cause is causes);
          damaged = λ same. damaged (is_damaged same);
          fault = λ same. disk.failed (is_fault same);
        }
          where
            is_damaged : s.cause ≡ SecondDamaged → IsErrOf r SecondDamaged
            is_damaged same = cc (is, same)

            is_fault : s.cause ≡ SecondFault → IsErrOf r SecondFault
            is_fault same = cc (is, same)
