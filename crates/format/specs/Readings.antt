-- Readings of the format as one list with one theorem: case F in bytes, and faults of every sort with their places.
use Rattle.std.specs.Prelude.{ℕ, suc, refl, List, [], ◌∷◌, ◌++◌, replicate}
use Rattle.sets.specs.Sets.{gather}
use Rattle.rules.specs.Chain.{same_number, before_number}
use Rattle.rules.specs.Reading.{at, out, tx, All}
use Rattle.rules.specs.PaperReadings.{t100, p200, p201}
use Rattle.format.specs.Fields.{field}
use Rattle.format.specs.Bodies.{number_of, serial_of, read_address, read_own, read_input, read_output, read_transaction, read_block, read_payment, own_body, block_body, pay_body, back_body, fault_at, read_body}
use Rattle.format.specs.Writing.{write_input, write_output, write_transaction, write_own, write_block}
use Rattle.format.specs.Feed.{row_right, well_formed, row_count, found, row_kind, row_body, Event, events, own_of}
use Rattle.format.specs.Sample.{u8, u16, u32, u64, row, input, output, head, event, Sample, body, written, feed, accepted, refused, row_of, ComesOut}

-- ── case F: its bodies end to end, and the whole feed of 271 bytes

abbrev own_f : List ℕ → List ℕ
own_f l = u8 2 (u32 10 (u32 11 l))

abbrev body100 : List ℕ → List ℕ
body100 l = head 100 1 2 (input 1 0 (output 0 10 60 (output 1 11 40 l)))

abbrev body200 : List ℕ → List ℕ
body200 l = head 200 1 2 (input 100 0 (output 0 99 25 (output 1 10 33 l)))

abbrev body201 : List ℕ → List ℕ
body201 l = head 201 1 2 (input 200 1 (output 0 98 30 (output 1 11 2 l)))

-- 271 is 15 + 256
abbrev back : List ℕ → List ℕ
back l = u8 4 (u8 0 (u16 0 (15 ∷ 1 ∷ 0 ∷ 0 ∷ l)))

abbrev pub case_f : List ℕ
case_f =
    u16 1 (u16 8
    (row 1 9 68 (row 2 49 77 (row 3 48 126 (row 2 49 174 (row 3 48 223 (back (back (back
    (own_f (u8 1 (body100 (body200 (u8 1 (body200 (body201 []))))))))))))))))

abbrev pub events_f : List Event
events_f =
    event 1 (own_body (10 ∷ 11 ∷ []))
    ∷ event 2 (block_body (t100 ∷ []))
    ∷ event 3 (pay_body p200)
    ∷ event 2 (block_body (p200 ∷ []))
    ∷ event 3 (pay_body p201)
    ∷ event 4 back_body
    ∷ event 4 back_body
    ∷ event 4 back_body
    ∷ []

-- a feed of the empty own list and one more row, its body empty, of some kind, zero byte and offset
abbrev two : ℕ → ℕ → ℕ → List ℕ → List ℕ
two kind padding offset l =
    u16 1 (u16 2 (row 1 1 20 (u8 kind (u8 padding (u16 0 (u32 offset (u8 0 l)))))))

-- a feed of the empty own list and a block's body of `size` zero bytes, 255 times 256 and `low`
abbrev long : ℕ → ℕ → List ℕ
long low size =
    u16 1 (u16 2 (row 1 1 20 (u8 2 (u8 0 (low ∷ 255 ∷ u32 21 (u8 0 (replicate size 0)))))))

-- a feed of the empty own list and some rollbacks, `low` rows more than 256, its table ending at 8 times 256 and `end`
abbrev many : ℕ → ℕ → ℕ → List ℕ
many low end rollbacks =
    u16 1 (low ∷ 1 ∷ u8 1 (u8 0 (u16 1 (end ∷ 8 ∷ 0 ∷ 0
    ∷ gather (λ (n : ℕ). u8 4 (u8 0 (u16 0 (suc end ∷ 8 ∷ 0 ∷ 0 ∷ [])))) (replicate rollbacks 0) ++ u8 0 []))))

abbrev pub readings : List Sample
readings =
    feed case_f (10 ∷ 11 ∷ []) events_f
    -- its bodies, written by the layout
    ∷ written (own_body (10 ∷ 11 ∷ [])) (own_f [])
    ∷ written (block_body (t100 ∷ [])) (u8 1 (body100 []))
    ∷ written (pay_body p201) (body201 [])
    ∷ written back_body []
    -- rows count from 1; a rollback's part is empty, but found
    ∷ row_of case_f 0 0 0 []
    ∷ row_of case_f 1 1 1 (own_f [])
    ∷ row_of case_f 3 1 3 (body200 [])
    ∷ row_of case_f 8 1 4 []
    ∷ row_of case_f 9 0 0 []
    ∷ row_of (two 4 0 20 []) 1 0 0 []
    -- own addresses: none, a count cut short, a count over 32, an address cut short, two the same, a byte left over
    ∷ body 1 (u8 0 []) (own_body [])
    ∷ body 1 [] (fault_at 0)
    ∷ body 1 (u8 33 []) (fault_at 0)
    ∷ body 1 (u8 2 (u32 10 (11 ∷ 0 ∷ []))) (fault_at 5)
    ∷ body 1 (u8 2 (u32 10 (u32 10 []))) (fault_at 5)
    ∷ body 1 (u8 1 (u32 10 (7 ∷ []))) (fault_at 5)
    -- little endian: index 256
    ∷ body 3 (head 5 1 0 (u64 1 (0 ∷ 1 ∷ []))) (pay_body (tx 5 (at 1 256 ∷ []) []))
    -- a number cut short; no inputs, nine inputs, nine outputs
    ∷ body 3 (5 ∷ 0 ∷ 0 ∷ 0 ∷ 0 ∷ 0 ∷ 0 ∷ []) (fault_at 0)
    ∷ body 3 (head 5 0 0 []) (fault_at 8)
    ∷ body 3 (head 5 9 0 []) (fault_at 8)
    ∷ body 3 (head 5 1 9 []) (fault_at 9)
    -- inputs: a lower number, the same number with the same index; higher ones pass
    ∷ body 3 (head 5 2 0 (input 7 1 (input 6 2 []))) (fault_at 20)
    ∷ body 3 (head 5 2 0 (input 7 1 (input 7 1 []))) (fault_at 28)
    ∷ body 3 (head 5 2 0 (input 7 1 (input 7 2 []))) (pay_body (tx 5 (at 7 1 ∷ at 7 2 ∷ []) []))
    ∷ body 3 (head 5 2 0 (input 7 1 (input 8 0 []))) (pay_body (tx 5 (at 7 1 ∷ at 8 0 ∷ []) []))
    -- outputs: the same index twice, an address cut short, amounts at the limit and one over
    ∷ body 3 (head 5 1 2 (input 7 1 (output 3 10 60 (output 3 10 60 [])))) (fault_at 34)
    ∷ body 3 (head 5 1 1 (input 7 1 (u16 3 (10 ∷ 0 ∷ 0 ∷ [])))) (fault_at 22)
    ∷ body 3 (head 5 1 1 (input 7 1 (u16 3 (u32 10 (0 ∷ 128 ∷ 228 ∷ 246 ∷ 66 ∷ 223 ∷ 159 ∷ 0 ∷ [])))))
    (pay_body (tx 5 (at 7 1 ∷ []) (out 3 10 45_000_000_000_000_000 ∷ [])))
    ∷ body 3 (head 5 1 1 (input 7 1 (u16 3 (u32 10 (1 ∷ 128 ∷ 228 ∷ 246 ∷ 66 ∷ 223 ∷ 159 ∷ 0 ∷ []))))) (fault_at 26)
    -- a byte left over
    ∷ body 3 (head 5 1 0 (input 7 1 (0 ∷ []))) (fault_at 20)
    -- blocks: empty, a count over 16, a number twice, ascending numbers, a fault inside the second transaction
    ∷ body 2 (u8 0 []) (block_body [])
    ∷ body 2 (u8 17 []) (fault_at 0)
    ∷ body 2 (u8 2 (head 5 1 0 (input 7 1 (head 5 1 0 (input 7 2 []))))) (fault_at 21)
    ∷ body 2 (u8 2 (head 5 1 0 (input 7 1 (head 6 1 0 (input 7 1 [])))))
    (block_body (tx 5 (at 7 1 ∷ []) [] ∷ tx 6 (at 7 1 ∷ []) [] ∷ []))
    ∷ body 2 (u8 2 (head 5 1 0 (input 7 1 (head 6 1 0 (u64 7 (1 ∷ [])))))) (fault_at 39)
    -- rollbacks take the empty body alone; unknown kinds take none
    ∷ body 4 [] back_body
    ∷ body 4 (0 ∷ []) (fault_at 0)
    ∷ body 0 [] (fault_at 0)
    ∷ body 9 (u8 0 []) (fault_at 0)
    -- a fault in another body is that event's alone
    ∷ feed (two 2 0 21 []) [] (event 1 (own_body []) ∷ event 2 (fault_at 0) ∷ [])
    ∷ feed (two 4 0 21 []) [] (event 1 (own_body []) ∷ event 4 back_body ∷ [])
    -- refused: unknown kind, a second own list, zero byte not zero, an empty body's offset, a byte behind the last body
    ∷ refused (two 5 0 21 [])
    ∷ refused (two 0 0 21 [])
    ∷ refused (two 1 0 21 [])
    ∷ refused (two 4 1 21 [])
    ∷ refused (two 4 0 20 [])
    ∷ refused (two 4 0 21 (0 ∷ []))
    -- refused: nothing, a head cut short, another version, no row, a first row of another kind, a gap behind the table
    ∷ refused []
    ∷ refused (u16 1 (u8 1 []))
    ∷ refused (u16 2 (u16 1 (row 1 1 12 (u8 0 []))))
    ∷ refused (u16 1 (u16 0 []))
    ∷ refused (u16 1 (u16 1 (row 2 1 12 (u8 0 []))))
    ∷ refused (u16 1 (u16 1 (row 1 1 13 (u8 0 (u8 0 [])))))
    -- refused: a faulty own list
    ∷ refused (u16 1 (u16 1 (row 1 1 12 (u8 1 []))))
    ∷ refused (u16 1 (u16 1 (row 1 2 12 (u8 0 (u8 0 [])))))
    -- 65,536 bytes pass, one more does not; 256 rows pass, one more does not
    ∷ accepted (long 235 65_515)
    ∷ refused (long 236 65_516)
    ∷ accepted (many 0 4 255)
    ∷ refused (many 1 12 256)
    ∷ []

pub readings_come_out : All ComesOut readings
unfolding serial_of write_input write_output write_transaction write_own write_block same_number before_number field number_of read_address read_own read_input read_output read_transaction read_block read_payment read_body row_right well_formed row_count found row_kind row_body events own_of
readings_come_out = ((refl, refl, refl), (refl, (refl, (refl, (refl, ((refl, refl, refl), ((refl, refl, refl), ((refl, refl, refl), ((refl, refl, refl), ((refl, refl, refl), ((refl, refl, refl), (refl, (refl, (refl, (refl, (refl, (refl, (refl, (refl, (refl, (refl, (refl, (refl, (refl, (refl, (refl, (refl, (refl, (refl, (refl, (refl, (refl, (refl, (refl, (refl, (refl, (refl, (refl, (refl, (refl, ((refl, refl, refl), ((refl, refl, refl), (refl, (refl, (refl, (refl, (refl, (refl, (refl, (refl, (refl, (refl, (refl, (refl, (refl, (refl, (refl, (refl, (refl, (refl, tt))))))))))))))))))))))))))))))))))))))))))))))))))))))))))))
