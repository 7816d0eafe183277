-- Further readings: what the paper's marked ones let through shows here. Own addresses are 10 and 11 throughout.
use Rattle.std.specs.Prelude.{[], ◌∷◌, pos}
use Rattle.rules.specs.States.{Wallet}
use Rattle.rules.specs.Calls.{block_call, pay_call, back_call}
use Rattle.rules.specs.Reading.{number, at, out, entry, tx, row, less, Reading}
use Rattle.rules.specs.PaperReadings.{fresh, t100, p200, p201}

-- Nine empty blocks: eight states are held, the oldest are let go.
abbrev pub eight_held : Reading
eight_held =
    record {
      start = fresh;
      calls =
          block_call []
          ∷ block_call []
          ∷ block_call []
          ∷ block_call []
          ∷ block_call []
          ∷ block_call []
          ∷ block_call []
          ∷ block_call []
          ∷ block_call []
          ∷ [];
      told =
          record {
            rows =
                row 0 0 0 0 0 (pos 0)
                ∷ row 0 0 0 0 0 (pos 0)
                ∷ row 0 0 0 0 0 (pos 0)
                ∷ row 0 0 0 0 0 (pos 0)
                ∷ row 0 0 0 0 0 (pos 0)
                ∷ row 0 0 0 0 0 (pos 0)
                ∷ row 0 0 0 0 0 (pos 0)
                ∷ row 0 0 0 0 0 (pos 0)
                ∷ row 0 0 0 0 0 (pos 0)
                ∷ [];
            utxo = [];
            pending = [];
            expected = [];
            held = 8;
          };
    }

-- Of two payments that share an input only one can happen: both together would leave 5, the dearer alone leaves 10.
abbrev pub conflict : Reading
conflict =
    record {
      start = fresh;
      calls =
          block_call ((tx 300 (at 1 0 ∷ []) (out 0 10 10 ∷ out 1 10 20 ∷ out 2 10 30 ∷ [])) ∷ [])
          ∷ pay_call (tx 400 (at 300 0 ∷ at 300 1 ∷ []) (out 0 10 5 ∷ []))
          ∷ block_call ((tx 401 (at 300 0 ∷ []) []) ∷ [])
          ∷ pay_call (tx 402 (at 300 1 ∷ at 300 2 ∷ []) [])
          ∷ back_call
          ∷ [];
      told =
          record {
            rows =
                row 0 60 60 60 0 (pos 60)
                ∷ row 0 30 35 35 1 (less 30)
                ∷ row 0 50 50 50 0 (pos 20)
                ∷ row 0 0 0 0 1 (less 50)
                ∷ row 0 0 5 10 1 (pos 0)
                ∷ [];
            utxo = at 300 0 ∷ at 300 1 ∷ at 300 2 ∷ [];
            pending = number 400 ∷ number 402 ∷ [];
            expected = [];
            held = 2;
          };
    }

-- A payment to ourselves costs nothing: of two choices with the least value the one with fewer payments counts.
abbrev pub fewer : Reading
fewer =
    record {
      start = fresh;
      calls =
          block_call ((tx 300 (at 1 0 ∷ []) (out 0 10 60 ∷ out 1 10 40 ∷ [])) ∷ [])
          ∷ pay_call (tx 400 (at 300 0 ∷ []) (out 0 10 33 ∷ []))
          ∷ pay_call (tx 401 (at 300 1 ∷ []) (out 0 11 40 ∷ []))
          ∷ [];
      told =
          record {
            rows =
                row 0 100 100 100 0 (pos 100)
                ∷ row 0 40 73 73 1 (less 60)
                ∷ row 0 0 73 73 1 (less 40)
                ∷ [];
            utxo = at 300 0 ∷ at 300 1 ∷ [];
            pending = number 400 ∷ number 401 ∷ [];
            expected = [];
            held = 2;
          };
    }

-- An expected transaction comes whole: 200.0 is spent by the payment, and 200.1 counts with it.
abbrev pub whole : Reading
whole =
    record {
      start = fresh;
      calls =
          block_call ((tx 300 (at 1 0 ∷ []) (out 0 10 10 ∷ [])) ∷ [])
          ∷ block_call ((tx 200 (at 2 0 ∷ []) (out 0 10 60 ∷ out 1 10 5 ∷ [])) ∷ [])
          ∷ pay_call (tx 400 (at 200 0 ∷ at 300 0 ∷ []) (out 0 10 1 ∷ []))
          ∷ back_call
          ∷ [];
      told =
          record {
            rows =
                row 0 10 10 10 0 (pos 10)
                ∷ row 0 75 75 75 0 (pos 65)
                ∷ row 0 5 6 6 1 (less 70)
                ∷ row 0 0 1 6 1 (less 5)
                ∷ [];
            utxo = at 300 0 ∷ [];
            pending = number 400 ∷ [];
            expected = at 200 0 ∷ at 200 1 ∷ [];
            held = 2;
          };
    }

-- A block that makes an expected reference again takes it out of expected.
abbrev pub again : Reading
again =
    record {
      start = fresh;
      calls =
          block_call (t100 ∷ [])
          ∷ back_call
          ∷ block_call (t100 ∷ [])
          ∷ [];
      told =
          record {
            rows =
                row 0 100 100 100 0 (pos 100)
                ∷ row 0 0 0 0 0 (less 100)
                ∷ row 0 100 100 100 0 (pos 100)
                ∷ [];
            utxo = at 100 0 ∷ at 100 1 ∷ [];
            pending = [];
            expected = [];
            held = 2;
          };
    }

-- A reference that is both expected and a chosen payment's output counts once: a wallet handed in, in which number 7 is
-- forced by 8's input 7.1 while payment 7 itself is chosen. The one call, a rollback, is refused and changes nothing.
abbrev pub handed_in : Wallet
handed_in =
    record {
      own = 10 ∷ 11 ∷ [];
      present =
          record {
            utxo = entry 1 0 10 50 ∷ entry 2 0 10 30 ∷ [];
            pending = tx 7 (at 1 0 ∷ []) (out 0 10 10 ∷ []) ∷ tx 8 (at 2 0 ∷ at 7 1 ∷ []) [] ∷ [];
            expected = entry 7 0 10 10 ∷ entry 7 1 10 100 ∷ [];
          };
      below = [];
    }

-- See above: minimum 10 with both payments; counted twice it would be 20.
abbrev pub counted : Reading
counted =
    record {
      start = handed_in;
      calls =
          back_call
          ∷ [];
      told =
          record {
            rows =
                row 8 0 10 10 2 (pos 0)
                ∷ [];
            utxo = at 1 0 ∷ at 2 0 ∷ [];
            pending = number 7 ∷ number 8 ∷ [];
            expected = at 7 0 ∷ at 7 1 ∷ [];
            held = 1;
          };
    }

-- The refusals 1 to 6, each in its turn: an input list empty or out of order; a number taken; an input not available, though
-- too much is paid out as well; too much paid out; a block out of order; an output unspent already, though its amount
-- differs too; a payment sent twice, though its input is no longer available; a payment's number with other outputs; after
-- the rollback a reference that is expected with another amount, one with a foreign address, and a number that is expected.
abbrev pub refusals : Reading
refusals =
    record {
      start = fresh;
      calls =
          block_call (t100 ∷ [])
          ∷ pay_call (tx 400 [] [])
          ∷ pay_call (tx 400 (at 100 1 ∷ at 100 0 ∷ []) [])
          ∷ pay_call (tx 100 (at 9 0 ∷ []) [])
          ∷ pay_call (tx 400 (at 9 0 ∷ []) (out 0 10 500 ∷ []))
          ∷ pay_call (tx 400 (at 100 1 ∷ []) (out 0 10 41 ∷ []))
          ∷ block_call (p201 ∷ p200 ∷ [])
          ∷ block_call (t100 ∷ [])
          ∷ block_call ((tx 100 (at 1 0 ∷ []) (out 0 10 61 ∷ [])) ∷ [])
          ∷ pay_call p200
          ∷ pay_call p200
          ∷ block_call ((tx 200 (at 100 0 ∷ []) (out 0 99 25 ∷ [])) ∷ [])
          ∷ back_call
          ∷ block_call ((tx 100 (at 1 0 ∷ []) (out 0 10 61 ∷ [])) ∷ [])
          ∷ block_call ((tx 100 (at 1 0 ∷ []) (out 1 99 40 ∷ [])) ∷ [])
          ∷ pay_call (tx 100 (at 100 0 ∷ []) [])
          ∷ [];
      told =
          record {
            rows =
                row 0 100 100 100 0 (pos 100)
                ∷ row 1 100 100 100 0 (pos 0)
                ∷ row 1 100 100 100 0 (pos 0)
                ∷ row 2 100 100 100 0 (pos 0)
                ∷ row 3 100 100 100 0 (pos 0)
                ∷ row 4 100 100 100 0 (pos 0)
                ∷ row 1 100 100 100 0 (pos 0)
                ∷ row 5 100 100 100 0 (pos 0)
                ∷ row 5 100 100 100 0 (pos 0)
                ∷ row 0 40 73 73 1 (less 60)
                ∷ row 2 40 73 73 1 (pos 0)
                ∷ row 6 40 73 73 1 (pos 0)
                ∷ row 0 0 33 0 0 (less 40)
                ∷ row 6 0 33 0 0 (pos 0)
                ∷ row 6 0 33 0 0 (pos 0)
                ∷ row 2 0 33 0 0 (pos 0)
                ∷ [];
            utxo = [];
            pending = number 200 ∷ [];
            expected = at 100 0 ∷ at 100 1 ∷ [];
            held = 1;
          };
    }

-- A wallet with an entry that is not own is not sound: every call is refused with 9, and the balances read 0.
abbrev pub not_own : Wallet
not_own =
    record {
      own = 10 ∷ 11 ∷ [];
      present = record { utxo = entry 1 0 12 50 ∷ []; pending = []; expected = [] };
      below = record { utxo = []; pending = []; expected = [] } ∷ [];
    }

-- See above.
abbrev pub unsound : Reading
unsound =
    record {
      start = not_own;
      calls =
          block_call (t100 ∷ [])
          ∷ pay_call p200
          ∷ back_call
          ∷ [];
      told =
          record {
            rows =
                row 9 0 0 0 0 (pos 0)
                ∷ row 9 0 0 0 0 (pos 0)
                ∷ row 9 0 0 0 0 (pos 0)
                ∷ [];
            utxo = at 1 0 ∷ [];
            pending = [];
            expected = [];
            held = 2;
          };
    }
