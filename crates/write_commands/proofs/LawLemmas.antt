-- Laws of what an ingest leaves and tells.
use Rattle.std.proofs.Common.{◌≡◌, ◌<◌, ◌++◌, ⊎_elim, inl, inr, refl, subst, ℕ, Bool, List, length, Option, Some, None, arith}
use Rattle.std.specs.Prelude.{IfSome, IsSome}
use Rattle.std.specs.List.{Contains}
use Rattle.std.proofs.lemmas.List.Elements.{All-contains}
use Rattle.message_reader.specs.Versions.{MessagesOf}
use Rattle.message_reader.proofs.VersionLawLemmas.{messages_exist}
use Rattle.ingest_meaning.specs.Given.{AreAllOf}
use Rattle.ingest_meaning.specs.Parts.{part_in}
use Rattle.log_seams.specs.Disk.{DiskState}
use Rattle.record_format.specs.declared.header.Header.{Header}
use Rattle.archive_meaning.specs.declared.entry.JournalEntry.{JournalEntry}
use Rattle.message_reader.specs.Taken.{IsBeforeLong}
use Rattle.command_refusals.specs.LogLimits.{most_messages}
use Rattle.command_refusals.specs.declared.outcome.PartCause.{PartCause}
use Rattle.command_answers.specs.Ingested.{FileOutcome, HasEnded, HasMoreThan, IsGivenBy, IsStoppedBy, Logs}
use Rattle.write_commands.specs.Laws.{IsOfTold, IsReadable, IsUnopenedOrTold, RestsEndTheirLog, UnopenedGiveNothing}
use Rattle.write_commands.proofs.LineLemmas.{long_behind}

of_told_log : (version : ℕ) (c : FileOutcome) (message : List ℕ) → IsUnopenedOrTold c → IsGivenBy version c message → IsOfTold version c message
of_told_log version c message (inl unopened) given = absurd (cc (unopened, given.0))
of_told_log version c message (inr some) given = go c.log refl some given.1
  where
    go : (told : Option (List ℕ)) → c.log ≡ told → IsSome told → IfSome told (λ bytes. (messages : List (List ℕ)) (ended : Bool) → MessagesOf version bytes messages ended → Contains messages message) → IsOfTold version c message
    go None is some one = absurd (cc (some))
    go (Some bytes) is some one = let have = messages_exist version bytes in record {
      opened = given.0;
      bytes = bytes;
      told = is;
      messages = have.0;
      ended = have.1;
      are = have.2;
      one = one have.0 have.1 have.2;
    }

pub unopened_give_nothing : UnopenedGiveNothing
unopened_give_nothing version came message each given =
    (given.0, given.1, of_told_log version given.0 message (All-contains IsUnopenedOrTold came given.0 each given.1) given.2)

module _ (logs : Logs) (came : List FileOutcome) (h : Header) (es : List JournalEntry) (c : FileOutcome) (messages taken : List (List ℕ)) (log : IsReadable logs came h es c messages) where
  none_stops : (cause : PartCause) → IsStoppedBy logs came h es c taken cause → ⊥
  none_stops PartCause.OpenFault is = is
  none_stops PartCause.ReadFault is = log.read is.0
  none_stops (PartCause.LineTooLong line) is =
      let before : IsBeforeLong h.version taken log.bytes = subst (λ (o : Option (List ℕ)). IfSome o (IsBeforeLong h.version taken)) log.told is.1 in
      log.short line (long_behind h.version taken log.bytes line is.0 before)
  none_stops PartCause.TooManyLines is =
      let more : (ms : List (List ℕ)) (e : Bool) → MessagesOf h.version log.bytes ms e → most_messages < length ms = subst (λ (o : Option (List ℕ)). HasMoreThan most_messages h.version o) log.told is.1 in
      omega (arith, more messages log.ended log.are, log.few)
  none_stops (PartCause.Full book count) is = log.free taken book count is.1
  none_stops (PartCause.ArchiveFull end need) is = is
  none_stops PartCause.DiskFault is = is
  none_stops PartCause.OutOfMemory is = is

  all_taken : HasEnded logs came h es c taken → taken ≡ messages
  all_taken (inl all) =
      let same : (ms : List (List ℕ)) (e : Bool) → MessagesOf h.version log.bytes ms e → taken ≡ ms = subst (λ (o : Option (List ℕ)). AreAllOf h.version o taken) log.told all in
      same messages log.ended log.are
  all_taken (inr why) = absurd (none_stops why.0 why.1)

pub rests_end_their_log : (new : DiskState) → RestsEndTheirLog new
rests_end_their_log new logs rows first came h named c end need messages fit log =
    let room = fit.room.holds in
    record {
      sealed = fit.room.sealed;
      count = fit.room.count;
      part = part_in room.segment room.messages;
      cut = ⊎_elim (λ whole. inl whole) (λ rest. inr (rest.0, all_taken logs came h named c messages (fit.room.sealed ++ room.messages) log rest.1)) room.cut;
    }
