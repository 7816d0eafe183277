-- Lists used as sets: the few words in which the rules are written.
-- A test is a Boolean function. `same` says when two members count as one, `before` gives a set its one order.
use Rattle.std.specs.Prelude.{ℕ, ◌+◌, min, Bool, true, false, not, cond, ◌&&◌, ◌||◌, List, [], ◌∷◌, ◌++◌, map}
use Rattle.std.specs.List.{list_any, list_all, filter, flat_map}

-- every test of a list holds
abbrev pub every : List Bool → Bool
every [] = true
every (b ∷ l) = b && every l

-- the least number of a list; 0 for the empty list
abbrev pub least_of : List ℕ → ℕ
least_of [] = 0
least_of (n ∷ []) = n
least_of (n ∷ m ∷ l) = min n (least_of (m ∷ l))

module _ {A : Type 0} where
  -- a test holds of one member, or of every member
  abbrev pub any : (A → Bool) → List A → Bool
  any p l = list_any p l

  abbrev pub all : (A → Bool) → List A → Bool
  all p l = list_all p l

  -- the members of which a test holds
  abbrev pub keep : (A → Bool) → List A → List A
  keep p l = filter p l

  -- the sum of a number over all members
  abbrev pub total : (A → ℕ) → List A → ℕ
  total f [] = 0
  total f (x ∷ l) = f x + total f l

  -- each member stands in a relation to all members after it
  abbrev pub pairwise : (A → A → Bool) → List A → Bool
  pairwise r [] = true
  pairwise r (x ∷ l) = all (r x) l && pairwise r l

  -- strictly ascending: each member before the next
  abbrev pub ascending : (A → A → Bool) → List A → Bool
  ascending before [] = true
  ascending before (x ∷ []) = true
  ascending before (x ∷ y ∷ l) = before x y && ascending before (y ∷ l)

  -- two lists of the same members in the same order
  abbrev pub same_list : (A → A → Bool) → List A → List A → Bool
  same_list same [] [] = true
  same_list same [] (y ∷ m) = false
  same_list same (x ∷ l) [] = false
  same_list same (x ∷ l) (y ∷ m) = same x y && same_list same l m

  -- membership
  abbrev pub has : (A → A → Bool) → A → List A → Bool
  has same x l = any (same x) l

  -- one member more, ahead of the first that it is before
  abbrev pub place : (A → A → Bool) → A → List A → List A
  place before x [] = x ∷ []
  place before x (y ∷ l) = let rest = place before x l in cond (before x y) (x ∷ y ∷ l) (y ∷ rest)

  -- the set with x; the set itself where x is in it
  abbrev pub insert : (A → A → Bool) → (A → A → Bool) → A → List A → List A
  insert same before x l = cond (has same x l) l (place before x l)

  -- two sets together
  abbrev pub together : (A → A → Bool) → (A → A → Bool) → List A → List A → List A
  together same before l [] = l
  together same before l (x ∷ m) = insert same before x (together same before l m)

  -- the first of each
  abbrev pub once : (A → A → Bool) → List A → List A
  once same [] = []
  once same (x ∷ l) = x ∷ keep (λ y. not (same x y)) (once same l)

  -- all choices of some members
  abbrev pub choices : List A → List (List A)
  choices [] = [] ∷ []
  choices (x ∷ l) = let rest = choices l in map (λ c. x ∷ c) rest ++ rest

module _ {A B : Type 0} where
  -- the lists of all members, one after another
  abbrev pub gather : (A → List B) → List A → List B
  gather f l = flat_map f l
