-- Each kind of body by its own law.
use mathlib.Core.Path.{refl}
use lib.IntN.{pos}
use Rattle.format.specs.Bodies.{read_body}
use Rattle.lines.specs.Events.{own_fits_lem, told_own, told_block, told_payment, told_rollback, told_fault}
use Rattle.lines.proofs.events.event.Goals as goal

pub opened-requires : goal.opened-requires
opened-requires c =
    own_fits_lem (read_body c.args.kind c.args.bytes.now) c.read_body-read.result c.read_body-read.ensures

pub returns-in-Own : goal.returns-in-Own
returns-in-Own c =
    told_own c.args.w c.requires c.args.kind c.args.bytes.now c.read_body-read.result c.read_body-read.ensures c.opened.result c.in-Own.is c.opened.ensures

pub returns-in-Block : goal.returns-in-Block
returns-in-Block c =
    told_block c.args.w c.requires c.args.kind c.args.bytes.now c.read_body-read.result c.read_body-read.ensures c.block.result c.in-Block.is c.block.ensures

pub returns-in-Payment : goal.returns-in-Payment
returns-in-Payment c =
    told_payment c.args.w c.requires c.args.kind c.args.bytes.now c.read_body-read.result c.read_body-read.ensures c.pay.result c.in-Payment.is c.pay.ensures

pub returns-in-Rollback : goal.returns-in-Rollback
returns-in-Rollback c =
    told_rollback c.args.w c.requires c.args.kind c.args.bytes.now c.read_body-read.result c.read_body-read.ensures c.roll_back.result c.in-Rollback.is c.roll_back.ensures

pub returns-in-Fault : goal.returns-in-Fault
returns-in-Fault c =
    told_fault c.args.w c.requires c.args.kind c.args.bytes.now c.read_body-read.result c.read_body-read.ensures (record { wallet = c.args.w; answer = 1; movement = pos 0 }) _ c.in-Fault.is refl
