use Rattle.std.proofs.Common.{◌≡◌, ◌≤◌, length, ap, arith, rules, refl, true, false, List, ℕ, Some}
use Rattle.log_seams.specs.Replay.{wrote, content}
use Rattle.log_seams.specs.MemDisk.{events_of, lacks_room}
use Rattle.log_seams.proofs.EventLemmas.{wrote_follows, elapses, within_end}
use Rattle.log_seams.proofs.mem_disk.MemDiskDisk.write.Goals as goal

-- a write that failed
pub returns-then-fails_next-clause-call : goal.returns-then-fails_next-clause-call
returns-then-fails_next-clause-call c =
    let inside : lacks_room c.args.self.now c.args.at (length c.args.bytes.now) ≡ false = search rules in
    let place : c.args.at ≤ length (content c.args.self.now.first (events_of c.args.self.now)) = omega (arith, ap (λ (l : List ℕ). length l) c.args.self.now.same, within_end c.args.self.now c.args.at (length c.args.bytes.now) inside) in
    let same = c.put.ensures.recorded.same.first in
    let is = c.put.ensures.events in
    let time = elapses c.args.self.now c.put.new.self (wrote false c.args.at c.args.bytes.now) same is in
    record {
      written = tt;
      tells = refl;
      images = wrote_follows _ _ _ _ false c.args.at c.args.bytes.now same is place;
      time = record { later = time.later; nothing_else = time.nothing_else; keeps = time.keeps };
      ranges = ap (λ (l : List (ℕ × ℕ)). Some l) c.put.ensures.ranges;
      counts = search (rules, arith);
    }

-- one that was done
pub returns-clause-call : goal.returns-clause-call
returns-clause-call c =
    let inside : lacks_room c.args.self.now c.args.at (length c.args.bytes.now) ≡ false = search rules in
    let place : c.args.at ≤ length (content c.args.self.now.first (events_of c.args.self.now)) = omega (arith, ap (λ (l : List ℕ). length l) c.args.self.now.same, within_end c.args.self.now c.args.at (length c.args.bytes.now) inside) in
    let same = c.put-2.ensures.recorded.same.first in
    let is = c.put-2.ensures.events in
    record {
      written = ap (λ (l : List ℕ). Some l) c.put-2.ensures.bytes;
      tells = refl;
      images = wrote_follows _ _ _ _ true c.args.at c.args.bytes.now same is place;
      time = elapses c.args.self.now c.put-2.new.self (wrote true c.args.at c.args.bytes.now) same is;
      ranges = ap (λ (l : List (ℕ × ℕ)). Some l) c.put-2.ensures.ranges;
      counts = search rules;
    }
