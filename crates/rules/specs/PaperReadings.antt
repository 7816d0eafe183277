-- The readings that the paper marks to be proved, with the whole of case F row by row. Own addresses are 10 and 11.
use Rattle.std.specs.Prelude.{[], ◌∷◌, take, pos}
use Rattle.rules.specs.Chain.{Transaction}
use Rattle.rules.specs.States.{Wallet}
use Rattle.rules.specs.Steps.{opening}
use Rattle.rules.specs.Calls.{block_call, pay_call, back_call}
use Rattle.rules.specs.Reading.{number, at, out, tx, row, less, Reading}

abbrev pub fresh : Wallet
fresh = (opening (10 ∷ 11 ∷ [])).wallet

-- Case F's transactions.
abbrev pub t100 : Transaction
t100 = tx 100 (at 1 0 ∷ []) (out 0 10 60 ∷ out 1 11 40 ∷ [])

abbrev pub p200 : Transaction
p200 = tx 200 (at 100 0 ∷ []) (out 0 99 25 ∷ out 1 10 33 ∷ [])

abbrev pub p201 : Transaction
p201 = tx 201 (at 200 1 ∷ []) (out 0 98 30 ∷ out 1 11 2 ∷ [])

-- The whole of case F, row by row.
abbrev pub case_f : Reading
case_f =
    record {
      start = fresh;
      calls =
          block_call (t100 ∷ [])
          ∷ pay_call p200
          ∷ block_call (p200 ∷ [])
          ∷ pay_call p201
          ∷ back_call
          ∷ back_call
          ∷ back_call
          ∷ [];
      told =
          record {
            rows =
                row 0 100 100 100 0 (pos 100)
                ∷ row 0 40 73 73 1 (less 60)
                ∷ row 0 73 73 73 0 (pos 33)
                ∷ row 0 40 42 42 1 (less 33)
                ∷ row 0 40 42 42 2 (pos 0)
                ∷ row 0 0 2 0 0 (less 40)
                ∷ row 8 0 2 0 0 (pos 0)
                ∷ [];
            utxo = [];
            pending = number 200 ∷ number 201 ∷ [];
            expected = at 100 0 ∷ at 100 1 ∷ at 200 1 ∷ [];
            held = 1;
          };
    }

-- 1. F after row 3: minimum 73 with 1 payment.
abbrev pub reading1 : Reading
reading1 =
    record {
      start = fresh;
      calls =
          take 2 case_f.calls;
      told =
          record {
            rows =
                row 0 100 100 100 0 (pos 100)
                ∷ row 0 40 73 73 1 (less 60)
                ∷ [];
            utxo = at 100 0 ∷ at 100 1 ∷ [];
            pending = number 200 ∷ [];
            expected = [];
            held = 2;
          };
    }

-- 2. F after row 6: expected holds 200.1 alone; minimum 42 with 2 payments.
abbrev pub reading2 : Reading
reading2 =
    record {
      start = fresh;
      calls =
          take 5 case_f.calls;
      told =
          record {
            rows =
                row 0 100 100 100 0 (pos 100)
                ∷ row 0 40 73 73 1 (less 60)
                ∷ row 0 73 73 73 0 (pos 33)
                ∷ row 0 40 42 42 1 (less 33)
                ∷ row 0 40 42 42 2 (pos 0)
                ∷ [];
            utxo = at 100 0 ∷ at 100 1 ∷ [];
            pending = number 200 ∷ number 201 ∷ [];
            expected = at 200 1 ∷ [];
            held = 2;
          };
    }

-- 3. F after row 7: minimum 0 with 0 payments.
abbrev pub reading3 : Reading
reading3 =
    record {
      start = fresh;
      calls =
          take 6 case_f.calls;
      told =
          record {
            rows =
                row 0 100 100 100 0 (pos 100)
                ∷ row 0 40 73 73 1 (less 60)
                ∷ row 0 73 73 73 0 (pos 33)
                ∷ row 0 40 42 42 1 (less 33)
                ∷ row 0 40 42 42 2 (pos 0)
                ∷ row 0 0 2 0 0 (less 40)
                ∷ [];
            utxo = [];
            pending = number 200 ∷ number 201 ∷ [];
            expected = at 100 0 ∷ at 100 1 ∷ at 200 1 ∷ [];
            held = 1;
          };
    }

-- 4. A coin made and spent in one block: the UTxO is 101.0 alone, available 59.
abbrev pub reading4 : Reading
reading4 =
    record {
      start = fresh;
      calls =
          block_call ((tx 100 (at 1 0 ∷ []) (out 0 10 60 ∷ [])) ∷ (tx 101 (at 100 0 ∷ []) (out 0 10 59 ∷ [])) ∷ [])
          ∷ [];
      told =
          record {
            rows =
                row 0 59 59 59 0 (pos 59)
                ∷ [];
            utxo = at 101 0 ∷ [];
            pending = [];
            expected = [];
            held = 2;
          };
    }

-- 5. Two pending payments share an input after a rollback: 400 and 402 pending, available 0, minimum 29 with 1 payment.
abbrev pub reading5 : Reading
reading5 =
    record {
      start = fresh;
      calls =
          block_call ((tx 300 (at 1 0 ∷ []) (out 0 10 10 ∷ out 1 10 20 ∷ [])) ∷ [])
          ∷ pay_call (tx 400 (at 300 0 ∷ at 300 1 ∷ []) (out 0 10 29 ∷ []))
          ∷ block_call ((tx 401 (at 300 0 ∷ []) (out 0 99 10 ∷ [])) ∷ [])
          ∷ pay_call (tx 402 (at 300 1 ∷ []) (out 0 10 19 ∷ []))
          ∷ back_call
          ∷ [];
      told =
          record {
            rows =
                row 0 30 30 30 0 (pos 30)
                ∷ row 0 0 29 29 1 (less 30)
                ∷ row 0 20 20 20 0 (pos 20)
                ∷ row 0 0 19 19 1 (less 20)
                ∷ row 0 0 48 29 1 (pos 0)
                ∷ [];
            utxo = at 300 0 ∷ at 300 1 ∷ [];
            pending = number 400 ∷ number 402 ∷ [];
            expected = [];
            held = 2;
          };
    }

-- 6. Rollback of a fresh wallet: 8.
abbrev pub reading6 : Reading
reading6 =
    record {
      start = fresh;
      calls =
          back_call
          ∷ [];
      told =
          record {
            rows =
                row 8 0 0 0 0 (pos 0)
                ∷ [];
            utxo = [];
            pending = [];
            expected = [];
            held = 1;
          };
    }

-- 7. Outputs of 61 from an input of 60 give 4; 60 pass.
abbrev pub reading7 : Reading
reading7 =
    record {
      start = fresh;
      calls =
          block_call (t100 ∷ [])
          ∷ pay_call (tx 200 (at 100 0 ∷ []) (out 0 99 61 ∷ []))
          ∷ pay_call (tx 200 (at 100 0 ∷ []) (out 0 99 60 ∷ []))
          ∷ [];
      told =
          record {
            rows =
                row 0 100 100 100 0 (pos 100)
                ∷ row 4 100 100 100 0 (pos 0)
                ∷ row 0 40 40 40 1 (less 60)
                ∷ [];
            utxo = at 100 0 ∷ at 100 1 ∷ [];
            pending = number 200 ∷ [];
            expected = [];
            held = 2;
          };
    }

-- 8. An empty block on a fresh wallet: accepted, movement 0, two states.
abbrev pub reading8 : Reading
reading8 =
    record {
      start = fresh;
      calls =
          block_call []
          ∷ [];
      told =
          record {
            rows =
                row 0 0 0 0 0 (pos 0)
                ∷ [];
            utxo = [];
            pending = [];
            expected = [];
            held = 2;
          };
    }
