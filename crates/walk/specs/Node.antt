-- What the search knows where the marks from k on are decided: its sums are those of the chosen rows, and every word that
-- agrees with it there costs no more than they do with all losses of the free rows.
use Rattle.std.specs.Prelude.{◌≡◌, refl, false, ℕ, suc, ◌+◌, ◌*◌, ◌-◌, ◌^◌, ◌≤◌, ◌<◌, T, length, get_or, take, drop}
use Rattle.std.proofs.Common.{sym, subst, ◌∙◌, pow-suc, zero-mul, length-append, drop_of_length-le, drop-cons}
use Rattle.std.proofs.Math.Path.{ap}
use Rattle.std.proofs.Math.Bool.{true}
use mathlib.Core.List.Memᴰ
use mathlib.Core.List.{List, [], ◌∷◌, ◌++◌, Memᴰ}
use Rattle.std.proofs.Math.Nat.{one-le-pow}
use native.Mathlib.Omega.{arith}
use Rattle.std.specs.Int.Count.{ones}
use Rattle.sets.specs.Sets.{total}
use Rattle.sets.specs.Laws.{total-append}
use Rattle.sets.specs.Words.{within, picked, picked_bit, picked-total, ones-length}
use Rattle.sets.specs.Marks.{picked_none, block_lower, block_upper, block_least, block_largest, picked_block}
use Rattle.tables.specs.declared.Row.{Row}
use Rattle.tables.specs.Tables.{Tables, takes_of, adds_of}
use Rattle.walk.specs.Walk.{empty_row, row_at, loss_of, pot_of}

-- the rows that a word chooses among those from place k on
abbrev pub chosen_from : Tables → ℕ → ℕ → List Row
chosen_from t k d = picked d (drop k t.rows)

-- The marks below k are free; m holds the decided ones, and the sums are those of the rows that they choose.
pub record Node (t : Tables) (k m gain cost count : ℕ) : Type 0 where
  pub decided : ℕ
  pub word : m ≡ decided * 2 ^ k
  pub places : k ≤ length t.rows
  pub room : m + 2 ^ k ≤ 2 ^ length t.rows
  pub gained : gain ≡ t.base + total (λ r. r.adds) (chosen_from t k decided)
  pub paid : cost ≡ total (λ r. r.takes) (chosen_from t k decided)
  pub counted : count ≡ length (chosen_from t k decided)

-- no word chooses any of no rows
none_from : (t : Tables) → chosen_from t (length t.rows) 0 ≡ []
none_from t = ap (λ (l : List Row). picked 0 l) (drop_of_length-le t.rows {i = length t.rows} (omega arith))

-- The search begins with nothing decided.
pub node_start : (t : Tables) → Node t (length t.rows) 0 t.base 0 0
node_start t =
    record {
      decided = 0;
      word = sym (zero-mul (2 ^ length t.rows));
      places = omega arith;
      room = omega arith;
      gained = omega (arith, ap (λ (l : List Row). total (λ (r : Row). r.adds) l) (none_from t));
      paid = sym (ap (λ (l : List Row). total (λ (r : Row). r.takes) l) (none_from t));
      counted = sym (ap (λ (l : List Row). length l) (none_from t));
    }

module _ {t : Tables} {k m gain cost count : ℕ} (n : Node t (suc k) m gain cost count) where
  -- the row at place k is left out, or chosen
  left_from : chosen_from t k (0 + 2 * n.decided) ≡ chosen_from t (suc k) n.decided
  left_from =
      ap (λ (l : List Row). picked (0 + 2 * n.decided) l) (drop-cons t.rows k empty_row n.places)
      ∙ picked_bit false n.decided (get_or t.rows k empty_row) (drop (suc k) t.rows)

  chosen_from_lem : chosen_from t k (1 + 2 * n.decided) ≡ row_at t k ∷ chosen_from t (suc k) n.decided
  unfolding row_at
  chosen_from_lem =
      ap (λ (l : List Row). picked (1 + 2 * n.decided) l) (drop-cons t.rows k empty_row n.places)
      ∙ picked_bit true n.decided (get_or t.rows k empty_row) (drop (suc k) t.rows)

  -- One mark more is decided: the row at place k is left out.
  pub node_left : Node t k m gain cost count
  node_left =
      record {
        decided = 0 + 2 * n.decided;
        word = n.word ∙ sym (block_lower n.decided k);
        places = omega (arith, n.places);
        room = omega (arith, n.room, pow-suc 2 k);
        gained = n.gained ∙ ap (λ (l : List Row). t.base + total (λ (r : Row). r.adds) l) (sym left_from);
        paid = n.paid ∙ ap (λ (l : List Row). total (λ (r : Row). r.takes) l) (sym left_from);
        counted = n.counted ∙ ap (λ (l : List Row). length l) (sym left_from);
      }

  -- It is chosen.
  pub node_chosen : Node t k (m + 2 ^ k) (gain + (row_at t k).adds) (cost + (row_at t k).takes) (count + 1)
  node_chosen =
      record {
        decided = 1 + 2 * n.decided;
        word = omega (arith, n.word, block_upper n.decided k);
        places = omega (arith, n.places);
        room = omega (arith, n.room, pow-suc 2 k);
        gained = omega (arith, n.gained, ap (λ (l : List Row). total (λ (r : Row). r.adds) l) chosen_from_lem);
        paid = omega (arith, n.paid, ap (λ (l : List Row). total (λ (r : Row). r.takes) l) chosen_from_lem);
        counted = omega (arith, n.counted, ap (λ (l : List Row). length l) chosen_from_lem);
      }

-- ── the words of a block

-- what a choice of rows takes is at most what it adds with all losses
losses : (m : ℕ) (l : List Row) → total (λ r. r.takes) (picked m l) ≤ total (λ r. r.adds) (picked m l) + total loss_of l
losses m l = omega (arith, each (picked m l), picked-total loss_of m l)
  where
    each : (d : List Row) → total (λ r. r.takes) d ≤ total (λ r. r.adds) d + total loss_of d
    each [] = omega arith
    each (r ∷ d) = let rest : total (λ x. x.takes) d ≤ total (λ x. x.adds) d + total loss_of d = each d in omega arith

module _ {t : Tables} {k m gain cost count : ℕ} (n : Node t k m gain cost count) (x : ℕ) (low : m ≤ x) (high : x < m + 2 ^ k) where
  node_whole : x ≡ n.decided * 2 ^ k + (x - m)
  node_whole = omega (arith, n.word)

  -- the rows that a word of the block chooses
  node_picked : picked x t.rows ≡ picked (x - m) (take k t.rows) ++ chosen_from t k n.decided
  node_picked =
      ap (λ (y : ℕ). picked y t.rows) node_whole
      ∙ picked_block k n.decided (x - m) t.rows (omega arith)

  -- No word of the block is below the decided sums less all losses of the free rows.
  pub node_floor : gain + takes_of t x ≤ cost + pot_of t k + (t.base + adds_of t x)
  unfolding takes_of adds_of pot_of
  node_floor =
      omega (
        arith,
        n.gained,
        n.paid,
        ap (λ (l : List Row). total (λ (r : Row). r.takes) l) node_picked,
        ap (λ (l : List Row). total (λ (r : Row). r.adds) l) node_picked,
        total-append (λ (r : Row). r.takes) (picked (x - m) (take k t.rows)) (chosen_from t k n.decided),
        total-append (λ (r : Row). r.adds) (picked (x - m) (take k t.rows)) (chosen_from t k n.decided),
        losses (x - m) (take k t.rows),
      )

  -- Every word of the block has at least the decided marks.
  pub node_ones : count ≤ ones x
  node_ones =
      omega (
        arith,
        n.counted,
        ones-length x t.rows (omega (arith, n.room)),
        ap (λ (l : List Row). length l) node_picked,
        length-append (picked (x - m) (take k t.rows)) (chosen_from t k n.decided),
      )

  -- Every word of the block holds the decided marks, and none outside them and the free ones.
  pub node_least : T (within m x)
  node_least =
      subst (λ (y : ℕ). T (within y x)) (sym n.word)
      (subst (λ (y : ℕ). T (within (n.decided * 2 ^ k) y)) (sym node_whole) (block_least k n.decided (x - m) (omega arith)))

  pub node_largest : T (within x (m + (2 ^ k - 1)))
  node_largest =
      subst (λ (y : ℕ). T (within x (y + (2 ^ k - 1)))) (sym n.word)
      (subst (λ (y : ℕ). T (within y (n.decided * 2 ^ k + (2 ^ k - 1)))) (sym node_whole) (block_largest k n.decided (x - m) (omega arith)))

-- Every word of the block chooses what the decided marks choose.
pub node_chooses :
    {t : Tables} {k m gain cost count : ℕ} → Node t k m gain cost count → (x : ℕ) → m ≤ x → x < m + 2 ^ k →
    (r : Row) → Memᴰ r (picked m t.rows) → Memᴰ r (picked x t.rows)
node_chooses {t} {k} {m} n x low high r h =
    subst (λ (l : List Row). Memᴰ r l) (sym (node_picked n x low high))
    (Memᴰ.append_right (picked (x - m) (take k t.rows)) (subst (λ (l : List Row). Memᴰ r l) decided h))
  where
    decided : picked m t.rows ≡ chosen_from t k n.decided
    decided =
        node_picked n m (omega arith) (omega (arith, one-le-pow k 2 (omega arith)))
        ∙ ap (λ (l : List Row). l ++ chosen_from t k n.decided)
        (ap (λ (y : ℕ). picked y (take k t.rows)) (omega arith) ∙ picked_none (take k t.rows))

-- With the row at place k chosen, every word of the block chooses it.
pub node_holds :
    {t : Tables} {k m gain cost count : ℕ} → Node t (suc k) m gain cost count → (x : ℕ) → m + 2 ^ k ≤ x → x < m + 2 ^ k + 2 ^ k →
    Memᴰ (row_at t k) (picked x t.rows)
unfolding node_chosen
node_holds {t} {k} {m} n x low high =
    subst (λ (l : List Row). Memᴰ (row_at t k) l) (sym (node_picked (node_chosen n) x low high))
    (Memᴰ.append_right (picked (x - (m + 2 ^ k)) (take k t.rows))
    (subst (λ (l : List Row). Memᴰ (row_at t k) l) (sym (chosen_from_lem n)) (Memᴰ.head refl)))

-- ── all marks decided

module _ {t : Tables} {m gain cost count : ℕ} (n : Node t 0 m gain cost count) where
  leaf_picked : picked m t.rows ≡ chosen_from t 0 n.decided
  leaf_picked = node_picked n m (omega arith) (omega arith)

  -- The sums are those of the word.
  pub leaf_gain : gain ≡ t.base + adds_of t m
  unfolding adds_of
  leaf_gain = n.gained ∙ ap (λ (l : List Row). t.base + total (λ (r : Row). r.adds) l) (sym leaf_picked)

  pub leaf_cost : cost ≡ takes_of t m
  unfolding takes_of
  leaf_cost = n.paid ∙ ap (λ (l : List Row). total (λ (r : Row). r.takes) l) (sym leaf_picked)

  pub leaf_ones : ones m ≡ count
  leaf_ones = ones-length m t.rows (omega (arith, n.room)) ∙ ap (λ (l : List Row). length l) leaf_picked ∙ sym n.counted
