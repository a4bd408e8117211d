-- A reader at its beginning, and its count of faults.
use Rattle.std.proofs.Common.{◌≡◌, ◌≢◌, inl, inr, ℕ, ◌-◌, ◌≤◌, List, [], length, Option, Some, None, refl, sym, ◌∙◌, ap, subst, arith}
use Rattle.std.specs.Prelude.{is_none, Result, Ok, Err, IsErrOf}
use Rattle.log_seams.specs.Outside.{CountsOf, Rose}
use Rattle.std.proofs.lemmas.List.{append-nil}
use Rattle.record_format.specs.declared.header.Header.{Header}
use Rattle.archive_meaning.specs.declared.entry.JournalEntry.{JournalEntry}
use Rattle.archive_meaning.specs.Held.{nothing_held}
use Rattle.archive_meaning.specs.Spelled.{front_of}
use Rattle.archive_meaning.specs.Stands.{StandsFor}
use Rattle.archive_meaning.proofs.RunLemmas.{one_held}
use Rattle.archive_open.specs.Shown.{IsArchiveOf, Opens, Shown, files_of, kept_of}
use Rattle.pair_sieve.specs.Sieve.{Tells}
use Rattle.sink_pieces.specs.Output.{Grew, Took}
use Rattle.sink_pieces.proofs.OutputLemmas.{Grew-nothing}
use Rattle.live_search.specs.declared.refusal.LiveRefusal.TheVariants.{Damaged, DiskFault, SinkFault}
use Rattle.live_search.specs.declared.refusal.LiveRefusal.{LiveRefusal}
use Rattle.disk_seal.specs.declared.found.Found.{Found}
use Rattle.live_search.specs.Handled.{Handles, MeetsNone, Stops}
use Rattle.live_search.specs.Taken.{Takes}
use Rattle.live_search.specs.Reader.{KeepsCount, LiveStands, LiveView}

pub begins_stands : {K : Type 0} (written : K → Option (List ℕ)) (v : LiveView K) (a : Shown) → v.refusal ≡ None → v.out ≡ v.begun → v.reached.grown.kept ≡ a.kept → v.reached.grown.files ≡ a.files
    → v.reached.at ≡ a.end - 1 → ((types words : List (List ℕ)) → Tells v.reached.pattern types words v.reached.sieve) → (bytes : List ℕ) → Opens (Some bytes) a → (h : Header) (es : List JournalEntry) → StandsFor bytes h es → LiveStands written v h es []
begins_stands written v a runs same kept files at tells bytes opens h es stood =
    let is : IsArchiveOf a h es stood.legal.held = opens h es stood in
    record {
      header = stood.header;
      whole = λ place refused. cc (runs, refused);
      gate = λ _. at ∙ omega (arith, is.end) ∙ ap (λ (l : List JournalEntry). length (front_of h l)) (sym (append-nil es));
      gone = λ held run.
          let one : stood.legal.held ≡ held = one_held h nothing_held stood.legal.held held es stood.legal.run run in
          record {
            found = [];
            end = held;
            live = (refl, refl);
            grown = λ _. record { kept = kept ∙ is.kept ∙ ap (kept_of h) one; files = files ∙ is.files ∙ ap files_of one };
            sieved = λ _. tells held.types held.words;
            printed = subst (λ o. Took (is_none o) (written v.begun) (written v.out) []) (sym runs) (subst (λ o. Grew (written v.begun) (written o) []) (sym same) (Grew-nothing (written v.begun)));
          };
    }

-- ---- the count of faults of its output

pub count_first : {K : Type 0} (faults : K → ℕ) (begun out : K) → begun ≡ out → KeepsCount faults begun out None
count_first faults begun out same = record {
  later = subst (λ x. faults begun ≤ faults x) same (omega arith);
  rose = λ is. absurd (cc (is));
  steady = λ _. ap faults (sym same);
}

rose_on : (a b c : ℕ) → a ≤ b → Rose b c → Rose a c
rose_on a b c le (inl more) = inl (omega (arith, le, more))
rose_on a b c le (inr last) = inr last

stayed : {T : Type 0} (a b : ℕ) (res : Result T LiveRefusal) → CountsOf SinkFault a b res → (IsErrOf res SinkFault → ⊥) → b ≡ a
stayed a b (Ok t) counts never = counts.steady
stayed a b (Err e) counts never = counts.spared e refl (λ is. never (ap (λ x. Err x) is))

pub count_on : {K T : Type 0} (faults : K → ℕ) (begun out new : K) (before after : Option LiveRefusal) (res : Result T LiveRefusal) → KeepsCount faults begun out before
    → before ≡ None → CountsOf SinkFault (faults out) (faults new) res → (after ≡ Some SinkFault → IsErrOf res SinkFault) → (after ≢ Some SinkFault → IsErrOf res SinkFault → ⊥)
    → KeepsCount faults begun new after
count_on faults begun out new before after res keeps runs counts failed spared = record {
  later = omega (arith, keeps.later, counts.later);
  rose = λ is. rose_on (faults begun) (faults out) (faults new) keeps.later (counts.failed (failed is));
  steady = λ other. stayed (faults out) (faults new) res counts (spared other) ∙ keeps.steady (λ is. cc (runs, is));
}

pub count_stopped : {K : Type 0} (faults : K → ℕ) (begun out : K) (before : Option LiveRefusal) (refusal : LiveRefusal) → KeepsCount faults begun out before → before ≡ None → refusal ≢ SinkFault
    → KeepsCount faults begun out (Some refusal)
count_stopped faults begun out before refusal keeps runs other =
    record { later = keeps.later; rose = λ is. absurd (other (cc (is))); steady = λ _. keeps.steady (λ is. cc (runs, is)) }

-- ---- what it does with a record

module _ {K : Type 0} (written : K → Option (List ℕ)) (f : Found) (u v w : LiveView K) (same : v ≡ u) where
  pub takes_on : w.refusal ≡ None → w.name ≡ v.name → w.begun ≡ v.begun → Handles f v.reached w.reached (written v.out) (written w.out) → Takes written f u w
  takes_on on name begun handles = subst (λ (x : LiveView K). Takes written f x w) same (record {
    name = name;
    begun = begun;
    handled = λ _. handles;
    stopped = λ off. absurd (off on);
    damaged = λ at is. absurd (cc (on, is));
    disk = λ is. cc (on, is);
  })

  pub takes_off : (r : LiveRefusal) → w.refusal ≡ Some r → w.name ≡ v.name → w.begun ≡ v.begun
      → Stops f v.reached w.reached (written v.out) (written w.out) → ((at : ℕ) → r ≡ Damaged at → MeetsNone f v.reached) → r ≢ DiskFault → Takes written f u w
  takes_off r off name begun stops damaged disk = subst (λ (x : LiveView K). Takes written f x w) same (record {
    name = name;
    begun = begun;
    handled = λ on. absurd (cc (on, off));
    stopped = λ _. stops;
    damaged = λ at is. damaged at (cc (off, is));
    disk = λ is. disk (cc (off, is));
  })
