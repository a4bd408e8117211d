-- What the sources and sinks in memory are to their callers.
use Rattle.std.specs.Prelude.{◌≡◌, ℕ, ◌+◌, ◌-◌, ◌^◌, min, List}

-- the number of the next call, and the numbers of the calls that fail
pub record CallState : Type 0 where
  pub made : ℕ
  pub fails : List ℕ

-- one call more was made, unless the number stands at the last value of u64
pub record CalledOnce (old new : CallState) : Type 0 where
  pub made : new.made ≡ min (old.made + 1) (2 ^ 64 - 1)
  pub fails : new.fails ≡ old.fails

-- a log in memory: the bytes that are left, its calls, and how often it has failed
pub record SourceState : Type 0 where
  pub left : List ℕ
  pub calls : CallState
  pub faults : ℕ

-- a sink in memory: what was written, how many bytes it can take in all, its calls, and how often it has failed
pub record SinkState : Type 0 where
  pub written : List ℕ
  pub room : ℕ
  pub calls : CallState
  pub faults : ℕ

-- a log that a shelf opened: its name, and the log
pub record NamedState : Type 0 where
  pub name : List ℕ
  pub log : SourceState

-- a log that a shelf has closed: its name, the bytes that were left, and how often it had failed
pub record ClosedState : Type 0 where
  pub name : List ℕ
  pub left : List ℕ
  pub faults : ℕ
