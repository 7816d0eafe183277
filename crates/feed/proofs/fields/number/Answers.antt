-- A field of any number: it is read from what the bytes have from its place on.
use Rattle.std.proofs.Common.{◌∙◌, arith, rules}
use Rattle.feed.specs.Fields.{field_whole, number_rest}
use Rattle.feed.proofs.fields.number.Goals as goal

pub returns : goal.returns
returns c =
    record {
      reading =
          field_whole c.args.width c.args.bytes.now c.args.place _ (omega arith)
          (c.number_at.ensures.0 ∙ number_rest c.args.width c.args.bytes.now c.args.place);
      kept = search rules;
      fits = c.number_at.ensures.1;
      start = search rules;
    }
