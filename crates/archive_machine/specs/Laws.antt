-- What holds of the machine for every list of events.
use Rattle.std.specs.Prelude.{◌≡◌, List, ◌++◌, length}
use mathlib.Core.List.{IsPrefix}
use Rattle.record_format.specs.declared.header.Header.{Header}
use Rattle.archive_meaning.specs.declared.entry.JournalEntry.{JournalEntry}
use Rattle.archive_meaning.specs.Held.{Held, nothing_held}
use Rattle.archive_meaning.specs.Legal.{Run}
use Rattle.archive_meaning.specs.Stands.{IsLegal}
use Rattle.archive_machine.specs.declared.state.Core.{Core}
use Rattle.archive_machine.specs.declared.event.Event.{Event}
use Rattle.archive_machine.specs.Machine.{IsKept, Runs, Steps, nothing_yet}
use Rattle.archive_machine.specs.Events.{bare, events_of, writes}

-- each list of events keeps what every state keeps
abbrev pub AlwaysKept : Type 0
AlwaysKept = (h : Header) (events : List Event) (c : Core) → Runs h nothing_yet events c → IsKept h c

-- each event leaves the texts of both dictionaries in front, so that a number still names its text, and the journal
abbrev pub StepsGrow : Type 0
StepsGrow =
    (h : Header) (c d : Core) (event : Event) → Steps h c event d
    → IsPrefix c.types d.types × IsPrefix c.words d.words × IsPrefix c.journal d.journal

-- the events of a legal journal lead to that journal as the machine writes it, with its texts
abbrev pub EventsLead : Type 0
EventsLead =
    (h : Header) (held : Held) (es : List JournalEntry) → (run : Run h nothing_held es held)
    → (c : Core) × Runs h nothing_yet (events_of h nothing_held held es run) c
    × (c.journal ≡ bare es) × (c.types ≡ held.types) × (c.words ≡ held.words)

-- Events lead from a state of this journal, which events led to, to one with these entries behind it, and one event writes each.
pub record GrowsByEvents (h : Header) (before fresh : List JournalEntry) : Type 0 where
  pub first : List Event
  pub old : Core
  pub reached : Runs h nothing_yet first old
  pub stood : old.journal ≡ bare before
  pub events : List Event
  pub new : Core
  pub led : Runs h old events new
  pub stands : new.journal ≡ bare before ++ bare fresh
  pub each : writes events ≡ length (bare fresh)

-- whatever is legally added to a journal is added by events
abbrev pub LegalGrowth : Type 0
LegalGrowth = (h : Header) (before fresh : List JournalEntry) → IsLegal h (before ++ fresh) → GrowsByEvents h before fresh

-- a list of events leads to one state
abbrev pub OneState : Type 0
OneState = (h : Header) (events : List Event) (c d : Core) → Runs h nothing_yet events c → Runs h nothing_yet events d → c ≡ d
