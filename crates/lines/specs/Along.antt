-- The loop over the rows: after the first so many the text holds their lines, and the wallet is the rules'.
use Rattle.std.specs.Prelude.{ℕ, suc, ◌+◌, ◌<◌, ◌≡◌, List, [], ◌++◌, T}
use Rattle.std.proofs.Common.{sym, ap, ap₂, refl, ◌∙◌, add-one, arith}
use Rattle.rules.specs.Chain.{shaped_own}
use Rattle.rules.specs.States as States
use Rattle.rules.specs.Steps as Steps
use Rattle.rules.specs.Steps.{opening}
use Rattle.format.specs.Bodies as Format
use Rattle.format.specs.Bodies.{read_body}
use Rattle.format.specs.Feed.{kind_in, body_in, count_in, row_kind, row_body, well_formed}
use Rattle.format.proofs.Rows.{row_found_lem, is_row_lem}
use Rattle.wallet.specs.declared.Wallet.{Wallet}
use Rattle.wallet.specs.declared.Step.{Step}
use Rattle.wallet.specs.Contract.{viewed, is_sound, Reads}
use Rattle.wallet.specs.ContractLaws.{opened_sound}
use Rattle.lines.specs.declared.Line.{Line}
use Rattle.lines.specs.Sheet.{line_text, event_step, event_line}
use Rattle.fixed.specs.declared.Filled.{Filled}
use Rattle.fixed.specs.Filled.{with_items}
use Rattle.lines.specs.Text.{put_then}
use Rattle.lines.specs.Events.{Told, step_of}
use Rattle.lines.specs.Rows.{text_to, held_after, next_step, next_line, text_more, held_more}

-- After i rows: the wallet is sound and the rules', and their lines stand in the text.
pub record Along {n : ℕ} (feed : List ℕ) (old text : Filled ℕ n) (w : Wallet) (i : ℕ) : Type 0 where
  pub is_good : T (is_sound w)
  pub held : viewed w ≡ held_after feed i
  pub wrote : text ≡ with_items old (text_to feed i)

-- before the first row
pub along_start :
    {n : ℕ} (feed : List ℕ) (text : Filled ℕ n) (w : Wallet) → T (is_sound w) × (viewed w ≡ States.opened []) →
    Along feed text text w 0
unfolding text_to held_after
along_start feed text w h = record { is_good = h.0; held = h.1; wrote = refl }

-- ── a turn

step_one : (r : Step) (s : Steps.Step) → Reads r s → step_of r ≡ s
step_one r s a =
    let w = a.wallet in
    let n = a.answer in
    let m = a.movement in
    λ i. record { wallet = w i; answer = n i; movement = m i }

module _
    {n : ℕ} (feed : List ℕ) (old text : Filled ℕ n) (w : Wallet) (i : ℕ)
    (formed : T (well_formed feed)) (a : Along feed old text w i) (h : i < count_in feed)
    (kind : ℕ) (k : kind ≡ kind_in feed (i + 1))
    (step : Step) (s : Told (event_step (viewed w) (read_body kind (body_in feed (i + 1)))) step) where
  found : (row_kind feed (suc i) ≡ kind_in feed (suc i)) × (row_body feed (suc i) ≡ body_in feed (suc i))
  found =
      let f = row_found_lem feed (suc i) (is_row_lem feed (suc i) formed (omega arith) (omega arith)) in
      (f.1, f.2)

  kind_is : kind ≡ row_kind feed (suc i)
  kind_is = k ∙ ap (kind_in feed) (add-one i) ∙ sym found.0

  step_is : step_of step ≡ next_step feed i
  step_is =
      step_one step (event_step (viewed w) (read_body kind (body_in feed (i + 1)))) s.reads
      ∙ ap₂ (λ (v : States.Wallet) (b : Format.Body). event_step v b) a.held
      (ap₂ read_body kind_is (ap (body_in feed) (add-one i) ∙ sym found.1))

  module _ (line : Line) (l : line ≡ event_line (i + 1) kind (step_of step)) where
    line_is : line ≡ next_line feed i
    line_is =
        l
        ∙ ap (λ (n : ℕ). event_line n kind (step_of step)) (add-one i)
        ∙ ap₂ (λ (n : ℕ) (x : Steps.Step). event_line (suc i) n x) kind_is step_is

    pub turn : (next : Filled ℕ n) → next ≡ with_items text (line_text line) → Along feed old next step.wallet (i + 1)
    turn next v =
        record {
          is_good = s.is_good;
          held = ap (λ (x : Steps.Step). x.wallet) step_is ∙ sym (held_more feed i) ∙ ap (held_after feed) (sym (add-one i));
          wrote =
              put_then old text next (text_to feed i) (line_text line) a.wrote v
              ∙ ap (with_items old)
              (ap (λ (x : Line). text_to feed i ++ line_text x) line_is ∙ sym (text_more feed i) ∙ ap (text_to feed) (sym (add-one i)));
        }

-- ── before the first event

pub unopened_is : (r : Step) → Reads r (Steps.opening []) → T (is_sound r.wallet) × (viewed r.wallet ≡ States.opened [])
unfolding opening shaped_own
unopened_is r a = (opened_sound [] a, a.wallet)
