-- From a body straight to the wallet's types: the struct that holds a block or payment that was read is laid out and
-- shaped, and what it holds is what the format reads. So a step never answers 1 to a body that was read.
use Rattle.std.specs.Prelude.{◌≡◌, refl, List, [], ◌∷◌, map, ℕ, ◌≤◌, T, length, take, drop}
use Rattle.std.proofs.Common.{sym, ap, subst, ◌∙◌, arith}
use Rattle.std.proofs.lemmas.List.{length-map}
use Rattle.sets.specs.Fill.{filled-length, filled_first, filled_rest}
use Rattle.sets.specs.Sets.{all}
use Rattle.sets.specs.Tests.{and_left, and_right, and_both}
use Rattle.rules.specs.Sizes.{most_own, most_inputs, most_outputs, most_transactions}
use Rattle.rules.specs.Chain as Chain
use Rattle.rules.specs.Chain.{shaped_transaction, shaped_block, shaped_own}
use Rattle.rules.specs.ChainLaws.{same_reference_refl, same_output_refl}
use Rattle.rules.specs.ShapeLaws.{shaped_facts, shaped_block_facts}
use Rattle.chain.specs.declared.Transaction.{Transaction}
use Rattle.chain.specs.declared.Block.{Block}
use Rattle.chain.specs.View.{no_reference, no_output, view_transaction, view_block, laid_out, no_transaction, laid_out_block, good_transaction, good_block, zero_reference, zero_output, zero_transaction}
use Rattle.chain.specs.Facts.{laid_out_lem, laid_out_block_lem}
use Rattle.chain.specs.ViewLaws.{zero_no_transaction}
use Rattle.format.specs.Bodies as Format
use Rattle.format.specs.Bodies.{own_body, block_body, pay_body, read_body}
use Rattle.format.proofs.WrittenRead.{own_shaped, block_shaped, payment_shaped}
use Rattle.feed.specs.Structs.{struct_of, places_of}
use Rattle.feed.specs.Transactions.{struct_view}
use Rattle.feed.specs.Bodies.{own_struct, block_of}
use Rattle.feed.specs.declared.bodies.Own.{Own}

-- ── a transaction in its struct

pub struct_laid_out : (t : Chain.Transaction) → length t.inputs ≤ most_inputs → length t.outputs ≤ most_outputs → T (laid_out (struct_of t))
struct_laid_out t g h =
    laid_out_lem (struct_of t) (record {
      input_places = filled-length most_inputs zero_reference t.inputs g;
      output_places = filled-length most_outputs zero_output t.outputs h;
      takes_fit = g;
      makes_fit = h;
      inputs_end = filled_rest no_reference most_inputs zero_reference t.inputs (same_reference_refl zero_reference);
      outputs_end = filled_rest no_output most_outputs zero_output t.outputs (same_output_refl zero_output);
    })

shaped_laid_out : (t : Chain.Transaction) → T (shaped_transaction t) → T (laid_out (struct_of t))
shaped_laid_out t s =
    let f = shaped_facts t s in
    struct_laid_out t f.inputs_fit f.outputs_fit

-- a shaped transaction is good in its struct
pub struct_good : (t : Chain.Transaction) → T (shaped_transaction t) → T (good_transaction (struct_of t))
unfolding good_transaction
struct_good t s =
    and_both (laid_out (struct_of t)) (shaped_transaction (view_transaction (struct_of t))) (shaped_laid_out t s)
    (subst (λ (v : Chain.Transaction). T (shaped_transaction v)) (sym (struct_view t)) s)

-- ── a block in its struct

views : (b : Chain.Block) → map view_transaction (map struct_of b) ≡ b
views [] = refl
views (t ∷ b) =
    let h = struct_view t in
    let r = views b in
    λ i. h i ∷ r i

block_taken : (b : Chain.Block) → take (length b) (places_of b) ≡ map struct_of b
block_taken b =
    ap (λ (n : ℕ). take n (places_of b)) (sym (length-map b struct_of))
    ∙ filled_first most_transactions zero_transaction (map struct_of b)

pub block_view : (b : Chain.Block) → view_block (block_of b) ≡ b
block_view b = ap (λ (l : List Transaction). map view_transaction l) (block_taken b) ∙ views b

each_laid_out_lem : (b : Chain.Block) → T (all shaped_transaction b) → T (all laid_out (map struct_of b))
each_laid_out_lem [] s = tt
each_laid_out_lem (t ∷ b) s =
    and_both (laid_out (struct_of t)) (all laid_out (map struct_of b))
    (shaped_laid_out t (and_left (shaped_transaction t) (all shaped_transaction b) s))
    (each_laid_out_lem b (and_right (shaped_transaction t) (all shaped_transaction b) s))

pub block_laid_out : (b : Chain.Block) → T (shaped_block b) → T (laid_out_block (block_of b))
block_laid_out b s =
    let f = shaped_block_facts b s in
    let n = length-map b struct_of in
    let fit = f.block_fits in
    laid_out_block_lem (block_of b) (record {
      places = filled-length most_transactions zero_transaction (map struct_of b) (omega (arith, n, fit));
      count_fits = fit;
      each_laid_out = subst (λ (l : List Transaction). T (all laid_out l)) (sym (block_taken b)) (each_laid_out_lem b f.each_shaped);
      block_ends =
          subst (λ (k : ℕ). T (all no_transaction (drop k (places_of b)))) n
          (filled_rest no_transaction most_transactions zero_transaction (map struct_of b) zero_no_transaction);
    })

-- a shaped block is good in its struct
pub block_good : (b : Chain.Block) → T (shaped_block b) → T (good_block (block_of b))
unfolding good_block
block_good b s =
    and_both (laid_out_block (block_of b)) (shaped_block (view_block (block_of b))) (block_laid_out b s)
    (subst (λ (v : Chain.Block). T (shaped_block v)) (sym (block_view b)) s)

-- ── what the code hands back

-- an own list that was read
pub record OwnGood (body : Format.Body) (own : Own) : Type 0 where
  pub held : body ≡ own_body (take own.count own.addresses)
  pub shaped_list : T (shaped_own (take own.count own.addresses))

-- a block that was read
pub record BlockGood (body : Format.Body) (block : Block) : Type 0 where
  pub held : body ≡ block_body (view_block block)
  pub good : T (good_block block)

-- a payment that was read
pub record PaymentGood (body : Format.Body) (payment : Transaction) : Type 0 where
  pub held : body ≡ pay_body (view_transaction payment)
  pub good : T (good_transaction payment)

pub own_held : (kind : ℕ) (bytes own : List ℕ) → read_body kind bytes ≡ own_body own → OwnGood (read_body kind bytes) (own_struct own)
own_held kind bytes own e =
    let same = filled_first most_own 0 own in
    record {
      held = e ∙ ap (λ (l : List ℕ). own_body l) (sym same);
      shaped_list = subst (λ (l : List ℕ). T (shaped_own l)) (sym same) (own_shaped kind bytes own e);
    }

pub block_held : (kind : ℕ) (bytes : List ℕ) (b : Chain.Block) → read_body kind bytes ≡ block_body b → BlockGood (read_body kind bytes) (block_of b)
block_held kind bytes b e =
    record {
      held = e ∙ ap (λ (v : Chain.Block). block_body v) (sym (block_view b));
      good = block_good b (block_shaped kind bytes b e);
    }

pub payment_held : (kind : ℕ) (bytes : List ℕ) (t : Chain.Transaction) → read_body kind bytes ≡ pay_body t → PaymentGood (read_body kind bytes) (struct_of t)
payment_held kind bytes t e =
    record {
      held = e ∙ ap (λ (v : Chain.Transaction). pay_body v) (sym (struct_view t));
      good = struct_good t (payment_shaped kind bytes t e);
    }
