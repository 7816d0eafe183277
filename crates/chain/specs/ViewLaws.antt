-- A struct and its view: two structs that are laid out and have one view are equal, so the code's sameness of structs
-- is the rules' sameness of what they hold; and an unused place is the one zero transaction.
use Rattle.std.specs.Prelude.{ℕ, ◌≡◌, refl, Bool, ◌&&◌, List, [], ◌∷◌, T, eqb, take, replicate}
use Rattle.std.specs.Cmp.Lexicographic.{pointwise}
use Rattle.std.proofs.Common.{sym, ap, subst, ◌∙◌, arith}
use Rattle.sets.specs.Sets.{same_list}
use Rattle.sets.specs.Tests.{and_left, and_right, same_test}
use Rattle.sets.specs.Laws.{same_list_refl, same_list_eq}
use Rattle.sets.specs.Walks.{all_one, all_replicate, places_one, map_one}
use Rattle.rules.specs.declared.Reference.{Reference}
use Rattle.rules.specs.declared.Output.{Output}
use Rattle.rules.specs.Sizes.{most_inputs, most_outputs}
use Rattle.rules.specs.Chain as Chain
use Rattle.rules.specs.Chain.{same_number, same_reference, same_output, same_transaction, shaped_transaction, shaped_block}
use Rattle.rules.specs.ChainLaws.{same_number_refl, same_number_eq, same_reference_refl, same_reference_eq, same_output_refl, same_output_eq, same_transaction_refl, same_transaction_eq}
use Rattle.chain.specs.View.{zero_number, zero_reference, zero_output, zero_transaction, no_reference, no_output, view_transaction, view_block, laid_out, no_transaction, laid_out_block, good_transaction, good_block, same_struct}
use Rattle.chain.specs.Facts.{laid_out_facts, unused_facts, unused, laid_out_block_facts, same_struct_facts, same_struct_lem}
use Rattle.chain.specs.declared.Transaction.{Transaction}
use Rattle.chain.specs.declared.Block.{Block}

-- ── good

-- a good transaction is laid out, and its view is shaped
pub good_facts : (t : Transaction) → T (good_transaction t) → T (laid_out t) × T (shaped_transaction (view_transaction t))
unfolding good_transaction
good_facts t h =
    (and_left (laid_out t) (shaped_transaction (view_transaction t)) h, and_right (laid_out t) (shaped_transaction (view_transaction t)) h)

-- a good block is laid out, and its view is shaped
pub good_block_facts : (b : Block) → T (good_block b) → T (laid_out_block b) × T (shaped_block (view_block b))
unfolding good_block
good_block_facts b h =
    (and_left (laid_out_block b) (shaped_block (view_block b)) h, and_right (laid_out_block b) (shaped_block (view_block b)) h)

-- ── what an unused place holds

pub no_reference_zero : (r : Reference) → T (no_reference r) → r ≡ zero_reference
no_reference_zero r t = same_reference_eq r zero_reference t

pub no_output_zero : (o : Output) → T (no_output o) → o ≡ zero_output
no_output_zero o t = same_output_eq o zero_output t

-- an unused place of a block holds the zero transaction
pub no_transaction_zero : (t : Transaction) → T (no_transaction t) → t ≡ zero_transaction
no_transaction_zero t h =
    let u = unused_facts t h in
    let n : t.number ≡ zero_number = same_number_eq t.number zero_number u.number_none in
    let x : t.inputs ≡ replicate most_inputs zero_reference =
    subst (λ (k : ℕ). t.inputs ≡ replicate k zero_reference) u.input_places (all_one no_reference zero_reference no_reference_zero t.inputs u.inputs_none)
    in
    let y : t.outputs ≡ replicate most_outputs zero_output =
    subst (λ (k : ℕ). t.outputs ≡ replicate k zero_output) u.output_places (all_one no_output zero_output no_output_zero t.outputs u.outputs_none)
    in
    let tn = u.takes_none in
    let mn = u.makes_none in
    λ i. record { number = n i; inputs = x i; takes = tn i; outputs = y i; makes = mn i }

-- the zero transaction is one
pub zero_no_transaction : T (no_transaction zero_transaction)
zero_no_transaction =
    unused zero_transaction (record {
      number_none = same_number_refl zero_number;
      takes_none = refl;
      makes_none = refl;
      input_places = refl;
      output_places = refl;
      inputs_none = all_replicate no_reference zero_reference most_inputs (same_reference_refl zero_reference);
      outputs_none = all_replicate no_output zero_output most_outputs (same_output_refl zero_output);
    })

-- ── one view, one struct

-- two laid out transactions with one view are equal
pub view_one : (a b : Transaction) → T (laid_out a) → T (laid_out b) → view_transaction a ≡ view_transaction b → a ≡ b
view_one a b s t e =
    let f = laid_out_facts a s in
    let g = laid_out_facts b t in
    let n : a.number ≡ b.number = ap (λ (v : Chain.Transaction). v.number) e in
    let x =
    places_one no_reference zero_reference no_reference_zero a.inputs b.inputs a.takes b.takes
    (f.input_places ∙ sym g.input_places)
    (omega (arith, f.input_places, f.takes_fit))
    (omega (arith, g.input_places, g.takes_fit))
    f.inputs_end
    g.inputs_end
    (ap (λ (v : Chain.Transaction). v.inputs) e)
    in
    let y =
    places_one no_output zero_output no_output_zero a.outputs b.outputs a.makes b.makes
    (f.output_places ∙ sym g.output_places)
    (omega (arith, f.output_places, f.makes_fit))
    (omega (arith, g.output_places, g.makes_fit))
    f.outputs_end
    g.outputs_end
    (ap (λ (v : Chain.Transaction). v.outputs) e)
    in
    λ i. record { number = n i; inputs = x.1 i; takes = x.0 i; outputs = y.1 i; makes = y.0 i }

-- two laid out blocks with one view are equal
pub view_block_one : (a b : Block) → T (laid_out_block a) → T (laid_out_block b) → view_block a ≡ view_block b → a ≡ b
view_block_one a b s t e =
    let f = laid_out_block_facts a s in
    let g = laid_out_block_facts b t in
    let h : take a.count a.transactions ≡ take b.count b.transactions =
    map_one view_transaction laid_out view_one (take a.count a.transactions) (take b.count b.transactions) f.each_laid_out g.each_laid_out e
    in
    let x =
    places_one no_transaction zero_transaction no_transaction_zero a.transactions b.transactions a.count b.count
    (f.places ∙ sym g.places)
    (omega (arith, f.places, f.count_fits))
    (omega (arith, g.places, g.count_fits))
    f.block_ends
    g.block_ends
    h
    in
    λ i. record { transactions = x.1 i; count = x.0 i }

-- ── sameness of structs

-- a struct is the same as itself
pub same_struct_refl : (a : Transaction) → T (same_struct a a)
same_struct_refl a =
    same_struct_lem a a (record {
      same_numbers = same_number_refl a.number;
      same_takes = refl;
      same_makes = refl;
      same_inputs = same_list_refl same_reference same_reference_refl a.inputs;
      same_outputs = same_list_refl same_output same_output_refl a.outputs;
    })

-- the same structs are equal
pub same_struct_eq : (a b : Transaction) → T (same_struct a b) → a ≡ b
same_struct_eq a b h =
    let f = same_struct_facts a b h in
    let n = same_number_eq a.number b.number f.same_numbers in
    let x = same_list_eq same_reference same_reference_eq a.inputs b.inputs f.same_inputs in
    let y = same_list_eq same_output same_output_eq a.outputs b.outputs f.same_outputs in
    let tk = f.same_takes in
    let mk = f.same_makes in
    λ i. record { number = n i; inputs = x i; takes = tk i; outputs = y i; makes = mk i }

-- of laid out structs the code's sameness is the rules'
pub same_struct_view : (a b : Transaction) → T (laid_out a) → T (laid_out b) → same_struct a b ≡ same_transaction (view_transaction a) (view_transaction b)
same_struct_view a b s t =
    same_test (same_struct a b) (same_transaction (view_transaction a) (view_transaction b))
    (λ (h : T (same_struct a b)).
    subst (λ (c : Transaction). T (same_transaction (view_transaction a) (view_transaction c))) (same_struct_eq a b h) (same_transaction_refl (view_transaction a)))
    (λ (h : T (same_transaction (view_transaction a) (view_transaction b))).
    subst (λ (c : Transaction). T (same_struct a c)) (view_one a b s t (same_transaction_eq (view_transaction a) (view_transaction b) h)) (same_struct_refl a))

-- a place holds no transaction just where it holds the zero transaction
pub same_struct_zero : (t : Transaction) → same_struct t zero_transaction ≡ no_transaction t
same_struct_zero t =
    same_test (same_struct t zero_transaction) (no_transaction t)
    (λ (h : T (same_struct t zero_transaction)). subst (λ (u : Transaction). T (no_transaction u)) (sym (same_struct_eq t zero_transaction h)) zero_no_transaction)
    (λ (h : T (no_transaction t)). subst (λ (u : Transaction). T (same_struct u zero_transaction)) (sym (no_transaction_zero t h)) (same_struct_refl zero_transaction))

-- lists compared place by place, as `==` compares arrays, are compared as lists are
same_places : {A : Type 0} (e same : A → A → Bool) → ((x y : A) → e x y ≡ same x y) → (l m : List A) → pointwise e l m ≡ same_list same l m
same_places e same one [] [] = refl
same_places e same one [] (y ∷ m) = refl
same_places e same one (x ∷ l) [] = refl
same_places e same one (x ∷ l) (y ∷ m) = rw (one x y, same_places e same one l m) refl

-- field by field, as `==` compares structs, is the sameness of structs
pub same_fields :
    {number r : Bool} {e : Reference → Reference → Bool} {f : Output → Output → Bool} (a b : Transaction) →
    r ≡ (number && (pointwise e a.inputs b.inputs && (eqb a.takes b.takes && (pointwise f a.outputs b.outputs && eqb a.makes b.makes)))) →
    number ≡ same_number a.number b.number → ((x y : Reference) → e x y ≡ same_reference x y) → ((x y : Output) → f x y ≡ same_output x y) →
    r ≡ same_struct a b
unfolding same_struct
same_fields {e = e} {f} a b h n p q =
    let inputs = same_places e same_reference p a.inputs b.inputs in
    let outputs = same_places f same_output q a.outputs b.outputs in
    grind (arith, h, n, inputs, outputs)
