use Rattle.std.proofs.Common.{[], arith, ap, inl, refl, ◌∙◌, ◌≡◌, ◌++◌, length}
use Rattle.log_seams.specs.Returned.{ranges_told}
use Rattle.log_seams.specs.MemDisk.{events_of, ranges_of}
use Rattle.log_seams.specs.declared.returned.Returned.{Returned}
use Rattle.log_seams.proofs.PartLemmas.{ranges_back, took_back, count_events}
use Rattle.log_seams.proofs.mem_part.MemDiskSharedDisk.take_back.Goals as goal

pub returns : goal.returns
returns c =
    let m = c.args.self.now in
    let calls : c.len.result ≡ length (events_of m) = omega (arith, c.len.ensures, count_events [] m.calls.items m.log.items) in
    record {
      rests = record {
        seen = refl;
        no_more = λ d image. image;
        no_fewer = λ d image. image;
        time = record { later = omega arith; nothing_else = λ t d le since. inl since; keeps = λ t d le since. since };
      };
      added = λ more did.
          took_back c.args.part.ranges.items more (ranges_of m) _
          (ranges_back (events_of m) c.len.result c.args.part.ranges record { ptr = c.args.part.node.ptr; alloc = c.args.part.node.alloc; value = tt } c.replace.result calls
          ∙ ap (λ (r : Returned). ranges_told (events_of m) r ++ c.args.part.ranges.items) c.replace.ensures.value)
          did;
      later = c.add_faults-self.ensures.later;
      steady = c.add_faults-self.ensures.steady;
      rose = c.add_faults-self.ensures.rose;
    }
