-- What a transaction struct takes and makes, and what a read past the last transaction of a block gives.
use Rattle.std.specs.Prelude.{List, [], map, take}
use Rattle.rules.specs.declared.Reference.{Reference}
use Rattle.rules.specs.declared.Entry.{Entry}
use Rattle.rules.specs.Chain.{entry_of}
use Rattle.chain.specs.View.{zero_number}
use Rattle.chain.specs.declared.Transaction.{Transaction}

abbrev pub inputs_of : Transaction → List Reference
inputs_of t = take t.takes t.inputs

abbrev pub entries_of : Transaction → List Entry
entries_of t = map (entry_of t.number) (take t.makes t.outputs)

abbrev pub past_end : Transaction
past_end = record { number = zero_number; inputs = []; takes = 0; outputs = []; makes = 0 }
