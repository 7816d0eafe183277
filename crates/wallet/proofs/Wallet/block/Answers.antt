-- A block is the rules' block: refused with the paper's number, refused with 7 for want of room, or booked.
use Rattle.std.proofs.Common.{◌≡◌, T, leb, length, sym, subst, refl}
use Rattle.rules.specs.Sizes.{most_references}
use Rattle.rules.specs.Steps as Steps
use Rattle.chain.specs.View.{laid_out_block, view_block}
use Rattle.pool.specs.declared.Pool.{Pool}
use Rattle.pool.specs.Good.{good}
use Rattle.pool.specs.Book.{book_block}
use Rattle.pool.specs.BlockEntries.{entries_booked}
use Rattle.wallet.specs.Contract.{Stepped, viewed}
use Rattle.wallet.specs.Moved.{moved}
use Rattle.wallet.specs.Refusals.{number, refusal_some}
use Rattle.wallet.specs.PoolBooked.{next_full, next_fits_lem}
use Rattle.wallet.specs.StepsBooked.{tested, block_refused, block_without_room, bookable, block_booked}
use Rattle.wallet.proofs.Wallet.block.Goals as goal

pub returns-in-Err : goal.returns-in-Err
returns-in-Err c =
    subst (Stepped c.args.self (laid_out_block c.args.b) (Steps.block (viewed c.args.self) (view_block c.args.b)))
    (sym c.refused.ensures)
    (block_refused c.args.self c.args.b (number c.in-Err.refusal) c.in-Err.ensures (refusal_some c.in-Err.refusal))

pub taken-requires : goal.taken-requires
taken-requires c =
    let passed = sym c.in_default.ensures in
    let room = leb (length (entries_booked c.args.self.pool (view_block c.args.b))) most_references in
    let next = next_fits_lem room (book_block c.args.self.pool (view_block c.args.b)) c.in-Some.pool _ c.after_block.ensures c.in-Some.is in (
      (tested c.args.self.pool c.args.b passed).sound_before,
      subst (λ (p : Pool). T (good p)) (sym next.1) (bookable c.args.self.pool c.args.b passed next.0).sound_after,
    )

pub returns-in-Some : goal.returns-in-Some
returns-in-Some c =
    let passed = sym c.in_default.ensures in
    let room = leb (length (entries_booked c.args.self.pool (view_block c.args.b))) most_references in
    let next = next_fits_lem room (book_block c.args.self.pool (view_block c.args.b)) c.in-Some.pool _ c.after_block.ensures c.in-Some.is in
    subst (Stepped c.args.self (laid_out_block c.args.b) (Steps.block (viewed c.args.self) (view_block c.args.b)))
    (sym c.taken.ensures)
    (block_booked c.args.self c.args.b c.in-Some.pool (moved c.args.self.pool c.in-Some.pool) passed next.0 next.1 refl)

pub returns-in-None : goal.returns-in-None
returns-in-None c =
    let passed = sym c.in_default.ensures in
    let room = leb (length (entries_booked c.args.self.pool (view_block c.args.b))) most_references in
    subst (Stepped c.args.self (laid_out_block c.args.b) (Steps.block (viewed c.args.self) (view_block c.args.b)))
    (sym c.refused-in-None.ensures)
    (block_without_room c.args.self c.args.b passed (next_full room (book_block c.args.self.pool (view_block c.args.b)) _ c.after_block.ensures c.in-None.is))
