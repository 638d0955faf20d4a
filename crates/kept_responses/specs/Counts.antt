-- What requests take: statements, rows, calls that fail, and plans.
use Rattle.std.specs.Prelude.{ℕ}

-- the statements that were sent, the rows that were got, the calls that failed, and the plans that were made
pub record Counts : Type 0 where
  pub sent : ℕ
  pub got : ℕ
  pub faults : ℕ
  pub plans : ℕ

abbrev pub counts : ℕ → ℕ → ℕ → ℕ → Counts
counts sent got faults plans = record { sent = sent; got = got; faults = faults; plans = plans }
