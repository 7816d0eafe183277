-- The own list's answer tells whether the first row's body is right.
use Rattle.feed.specs.Rows.{own_flag}
use Rattle.feed.proofs.rows.own_right.Goals as goal

pub returns : goal.returns
returns c =
    own_flag c.args.feed.now c.body_in.result.now c.read_own.result _ c.is_ok.ensures.value c.read_own.ensures c.body_in.ensures
