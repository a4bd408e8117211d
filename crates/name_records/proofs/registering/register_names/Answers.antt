use Rattle.std.proofs.Common.{rules, List, ◌≡◌, ◌+◌, ◌<◌, ◌∙◌, ◌++◌, [], ◌∷◌, ap, arith, sym, subst, refl, length, take, min}
use Rattle.std.specs.Prelude.{IsErrOf}
use Rattle.std.proofs.lemmas.List.{length-map}
use Rattle.std.specs.Slice.Iter.{chunks_rest}
use Rattle.archive_meaning.specs.declared.TheConstants.{MAX_NAMES}
use Rattle.archive_meaning.specs.declared.entry.JournalEntry.TheVariants.{Files}
use Rattle.archive_open.specs.declared.files.FileEntry.{FileEntry}
use Rattle.ingest_meaning.specs.declared.refusal.RegisterRefusal.{RegisterRefusal}
use Rattle.ingest_meaning.specs.declared.refusal.RegisterRefusal.TheVariants.{ArchiveFull, DiskFault}
use Rattle.disk_journal.specs.Journal.{state_of}
use Rattle.disk_seal.specs.Registered.{HoldsNames}
use Rattle.name_records.specs.Named.{HasNames, names_of}
use Rattle.name_records.proofs.GroupLemmas.{group_adds, group_left, group_next, group_taken, group_within, names_counted, none_left}
use Rattle.name_records.proofs.NamedLemmas.{all_named, group_refused, names_then, no_names, unchanged}
use Rattle.name_records.proofs.registering.register_names.Goals as goal

pub loop-group-init : goal.loop-group-init
loop-group-init g c = record {
  can = search rules;
  finite = tt;
  size = search rules;
  within = omega arith;
  rest = search rules;
  named = ([], no_names c.args.first (state_of c.args.journal.now) (g.met.D.Disk.lawful c.args.journal.now.disk.now) c.requires.opens c.requires.holds);
}

pub overflow_cast-count : goal.overflow_cast-count
overflow_cast-count g c = omega (arith, c.loop-group.invariant.within, c.requires.few)

pub overflow_add-first : goal.overflow_add-first
overflow_add-first g c = omega (arith, c.loop-group.invariant.within, c.requires.few)

pub register_group-requires : goal.register_group-requires
register_group-requires g c =
    let now = c.loop-group in
    let steps = c.in-Some.ensures.steps in
    let is = sym now.invariant.rest ∙ steps.1.0 in
    let size = steps.1.1 ∙ (ap (λ n. min n (length (chunks_rest now.group-iterator))) now.invariant.size ∙ ap (λ (l : List FileEntry). min MAX_NAMES (length l)) steps.1.0) in
    record {
      names = record {
        opens = now.invariant.named.1.opens;
        holds = subst (λ n. HoldsNames (c.args.first + n) (state_of now.journal)) (names_counted c.args.files.now now.count now.invariant.within) now.invariant.named.1.holds;
        adds = group_adds c.args.files.now c.in-Some.group.now _ now.count now.invariant.within is c.args.first c.requires.few c.requires.short size (subst (λ (l : List FileEntry). 0 < length l) steps.1.0 steps.1.2);
      };
    }

pub overflow_add-count : goal.overflow_add-count
overflow_add-count g c =
    let now = c.loop-group in
    let within = group_within c.args.files.now c.in-Some.group.now _ now.count now.invariant.within (sym now.invariant.rest ∙ c.in-Some.ensures.steps.1.0) in
    omega (arith, within, c.requires.few)

pub loop-group-preserved : goal.loop-group-preserved
loop-group-preserved g c =
    let now = c.loop-group in
    let steps = c.in-Some.ensures.steps in
    let is = sym now.invariant.rest ∙ steps.1.0 in
    let some = names_of c.in-Some.group.now in
    let had = now.invariant.named in
    let count = names_counted c.args.files.now now.count now.invariant.within in
    let done = subst (λ n. HasNames (c.args.first + n) some (Files some ∷ []) (state_of now.journal) (state_of c.register_group.new.journal)) (sym count) c.in-Ok.ensures.done in
    record {
      can = search rules;
      finite = tt;
      size = steps.0 ∙ now.invariant.size;
      within = group_within c.args.files.now c.in-Some.group.now _ now.count now.invariant.within is;
      rest = sym (group_left c.args.files.now c.in-Some.group.now _ now.count now.invariant.within is);
      named = (
        had.0 ++ Files some ∷ [],
        subst (λ ns. HasNames c.args.first ns (had.0 ++ Files some ∷ []) (state_of c.args.journal.now) (state_of c.register_group.new.journal)) (sym (group_taken c.args.files.now c.in-Some.group.now _ now.count now.invariant.within is))
            (names_then c.args.first (take now.count (names_of c.args.files.now)) had.0 (state_of c.args.journal.now) (state_of now.journal) had.1 some (Files some ∷ []) (state_of c.register_group.new.journal) (g.met.D.Disk.lawful c.register_group.new.journal.disk.now) done),
      );
    }

pub returns-in-Err : goal.returns-in-Err
returns-in-Err g c =
    let now = c.loop-group in
    let steps = c.in-Some.ensures.steps in
    let is = sym now.invariant.rest ∙ steps.1.0 in
    let size = steps.1.1 ∙ (ap (λ n. min n (length (chunks_rest now.group-iterator))) now.invariant.size ∙ ap (λ (l : List FileEntry). min MAX_NAMES (length l)) steps.1.0) in
    let named = c.register_group.ensures in
    let why = c.in-Err.refusal in
    let err : (e : RegisterRefusal) → why ≡ e → IsErrOf c.register_group.result e = λ e same. cc (c.in-Err.is, same) in
    group_refused c.args.first (take now.count (names_of c.args.files.now)) now.invariant.named.0 (state_of c.args.journal.now) (state_of now.journal) now.invariant.named.1
    (names_of c.in-Some.group.now) (state_of c.register_group.new.journal) (g.met.D.Disk.lawful c.register_group.new.journal.disk.now) why named.goes
    (λ spared. let same = named.same why (err why refl) spared in unchanged now.journal c.register_group.new.journal named.goes same.0 same.1)
    (λ end need same. named.full end need (err (ArchiveFull end need) same))
    (λ same. named.fault (err DiskFault same))
    (λ same. named.under (err DiskFault same))
    (names_of c.args.files.now) now.count
    (omega (arith, group_within c.args.files.now c.in-Some.group.now _ now.count now.invariant.within is, size, subst (λ (l : List FileEntry). 0 < length l) steps.1.0 steps.1.2, length-map c.args.files.now (λ (f : FileEntry). f.name))) refl
    (group_next c.args.files.now c.in-Some.group.now _ now.count now.invariant.within is size)

pub returns : goal.returns
returns g c =
    let now = c.loop-group in
    let none = c.in-None.ensures.steps.1.0 in
    all_named c.args.first (take now.count (names_of c.args.files.now)) now.invariant.named.0 (state_of c.args.journal.now) (state_of now.journal) now.invariant.named.1 (g.met.D.Disk.lawful now.journal.disk.now)
    (names_of c.args.files.now) now.count (none_left c.args.files.now now.count now.invariant.within (ap length (sym now.invariant.rest) ∙ none)) refl
