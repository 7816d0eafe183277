-- The paper's table of sizes. The ranges of a transaction number, an output index and an address number are the
-- widths of their fields in src/lib.rt.
use Rattle.std.specs.Prelude.{ℕ}

abbrev pub largest_amount : ℕ
largest_amount = 45_000_000_000_000_000

abbrev pub most_own : ℕ
most_own = 32

abbrev pub fewest_inputs : ℕ
fewest_inputs = 1

abbrev pub most_inputs : ℕ
most_inputs = 8

abbrev pub most_outputs : ℕ
most_outputs = 8

abbrev pub most_transactions : ℕ
most_transactions = 16

abbrev pub most_states : ℕ
most_states = 8

abbrev pub most_payments : ℕ
most_payments = 16

abbrev pub most_references : ℕ
most_references = 128
