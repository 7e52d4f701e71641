-- Laws of membership, of filters and of joined lists.
use mathlib.Core.Path.{◌≡◌, refl, sym, ◌∙◌, ap}
use mathlib.Core.Logic.{◌⊎◌, inl, inr, ⊎_elim}
use mathlib.Core.List.{List, [], ◌∷◌, ◌++◌, append_assoc}
use mathlib.Core.Bool.{Bool, true, false, ◌&&◌, ◌||◌, false≢true, true≢false}
use Prim.Native.Nat.{ℕ, zero, suc, ◌+◌, ◌-◌, ◌≤◌, ◌<◌}
use native.Mathlib.Omega.{arith}
use lib.Dec.{eqb}
use lib.ListN.{length}
use borrow.Author.Tests.{eqb-true, eqb-false, eq-eqb}
pub use Rattle.rules.specs.Words.{Has}
use Rattle.rules.specs.Words.{any, all, push, keep, each, flat, mem, from}
use Rattle.rules.proofs.BoolLaws.{or_left, or_right, or_cases, or_assoc, and_both, and_cases, bool_cases, not_both_lem, bool_ext}

module _ {A : Type 0} where
  pub any_has : (p : A → Bool) (x : A) (xs : List A) → Has x xs → p x ≡ true → any p xs ≡ true
  any_has p x (y ∷ ys) (inl e) h = or_left (p y) (any p ys) (rw e at h)
  any_has p x (y ∷ ys) (inr m) h = or_right (p y) (any p ys) (any_has p x ys m h)
  any_has p x [] m h = absurd m

  pub has_any : (p : A → Bool) (xs : List A) → any p xs ≡ true → (x : A) × Has x xs × (p x ≡ true)
  has_any p [] h = absurd (false≢true h)
  has_any p (y ∷ ys) h = ⊎_elim (λ (e : p y ≡ true). (y, inl refl, e)) (λ e. let r = has_any p ys e in (r.0, inr r.1, r.2)) (or_cases (p y) (any p ys) h)

  pub all_has : (p : A → Bool) (x : A) (xs : List A) → all p xs ≡ true → Has x xs → p x ≡ true
  all_has p x [] h m = absurd m
  all_has p x (y ∷ ys) h (inl e) = ap p e ∙ (and_cases (p y) (all p ys) h).0
  all_has p x (y ∷ ys) h (inr m) = all_has p x ys (and_cases (p y) (all p ys) h).1 m

  pub has_all : (p : A → Bool) (xs : List A) → ((x : A) → Has x xs → p x ≡ true) → all p xs ≡ true
  has_all p [] f = refl
  has_all p (y ∷ ys) f = and_both (p y) (all p ys) (f y (inl refl)) (has_all p ys (λ x m. f x (inr m)))

  has_push : (x y : A) (b : Bool) (ys : List A) → Has x (push b y ys) → ((x ≡ y) × (b ≡ true)) ⊎ Has x ys
  has_push x y true ys (inl e) = inl (e, refl)
  has_push x y true ys (inr m) = inr m
  has_push x y false ys m = inr m

  push_has : (x y : A) (b : Bool) (ys : List A) → Has x ys → Has x (push b y ys)
  push_has x y true ys m = inr m
  push_has x y false ys m = m

  pub has_keep : (p : A → Bool) (x : A) (xs : List A) → Has x (keep p xs) → Has x xs × (p x ≡ true)
  has_keep p x [] m = absurd m
  has_keep p x (y ∷ ys) m = ⊎_elim (λ e. (inl e.0, ap p e.0 ∙ e.1)) (λ k. let r = has_keep p x ys k in (inr r.0, r.1)) (has_push x y (p y) (keep p ys) m)

  pub keep_has : (p : A → Bool) (x : A) (xs : List A) → Has x xs → p x ≡ true → Has x (keep p xs)
  keep_has p x [] m h = absurd m
  keep_has p x (y ∷ ys) (inl e) h = rw (sym (ap p e) ∙ h) (inl e)
  keep_has p x (y ∷ ys) (inr m) h = push_has x y (p y) (keep p ys) (keep_has p x ys m h)

  pub has_append_left : (x : A) (xs ys : List A) → Has x xs → Has x (xs ++ ys)
  has_append_left x (y ∷ xs) ys (inl e) = inl e
  has_append_left x (y ∷ xs) ys (inr m) = inr (has_append_left x xs ys m)
  has_append_left x [] ys m = absurd m

  pub has_append_right : (x : A) (xs ys : List A) → Has x ys → Has x (xs ++ ys)
  has_append_right x [] ys m = m
  has_append_right x (y ∷ xs) ys m = inr (has_append_right x xs ys m)

  pub has_append_cases : (x : A) (xs ys : List A) → Has x (xs ++ ys) → Has x xs ⊎ Has x ys
  has_append_cases x [] ys m = inr m
  has_append_cases x (y ∷ xs) ys (inl e) = inl (inl e)
  has_append_cases x (y ∷ xs) ys (inr m) = ⊎_elim (λ k. inl (inr k)) inr (has_append_cases x xs ys m)

module _ {A : Type 0} where
  pub flat_has : (x : A) (g : List A) (gs : List (List A)) → Has g gs → Has x g → Has x (flat gs)
  flat_has x g (h ∷ gs) (inl e) m = has_append_left x h (flat gs) (rw e at m)
  flat_has x g (h ∷ gs) (inr k) m = has_append_right x h (flat gs) (flat_has x g gs k m)
  flat_has x g [] k m = absurd k

  pub has_flat : (x : A) (gs : List (List A)) → Has x (flat gs) → (g : List A) × Has g gs × Has x g
  has_flat x [] m = absurd m
  has_flat x (g ∷ gs) m = ⊎_elim (λ k. (g, inl refl, k)) (λ k. let r = has_flat x gs k in (r.0, inr r.1, r.2)) (has_append_cases x g (flat gs) m)

pub mem_has : (c : ℕ) (xs : List ℕ) → mem c xs ≡ true → Has c xs
mem_has c [] h = absurd (false≢true h)
mem_has c (x ∷ xs) h = ⊎_elim (λ e. inl (eqb-true c x e)) (λ e. inr (mem_has c xs e)) (or_cases (eqb c x) (mem c xs) h)

pub has_mem : (c : ℕ) (xs : List ℕ) → Has c xs → mem c xs ≡ true
has_mem c (x ∷ xs) (inl e) = or_left (eqb c x) (mem c xs) (eq-eqb c x e)
has_mem c (x ∷ xs) (inr m) = or_right (eqb c x) (mem c xs) (has_mem c xs m)
has_mem c [] m = absurd m

-- the numbers from j on, where k is the next
pub from_down : (m k j : ℕ) → j + 1 ≡ k → k ≤ m → from j (m - j) ≡ j ∷ from k (m - k)
from_down m k j e l =
    let s : m - j ≡ suc (m - k) = omega arith in
    let t : suc j ≡ k = omega arith in
    ap (from j) s ∙ ap (λ (i : ℕ). j ∷ from i (m - k)) t

pub has_from : (n i c : ℕ) → i ≤ c → c < i + n → Has c (from i n)
has_from zero i c p q = absurd (omega arith)
has_from (suc n) i c p q =
    ⊎_elim (λ (e : eqb c i ≡ true). inl (eqb-true c i e)) (λ (e : eqb c i ≡ false). let d = eqb-false c i e in inr (has_from n (suc i) c (omega arith) (omega arith))) (bool_cases (eqb c i))

module _ {A B : Type 0} where
  pub each_has : (f : A → B) (x : A) (xs : List A) → Has x xs → Has (f x) (each f xs)
  each_has f x (y ∷ ys) (inl e) = inl (ap f e)
  each_has f x (y ∷ ys) (inr m) = inr (each_has f x ys m)
  each_has f x [] m = absurd m

  pub has_each : (f : A → B) (y : B) (xs : List A) → Has y (each f xs) → (x : A) × Has x xs × (y ≡ f x)
  has_each f y [] m = absurd m
  has_each f y (x ∷ xs) (inl e) = (x, inl refl, e)
  has_each f y (x ∷ xs) (inr m) = let r = has_each f y xs m in (r.0, inr r.1, r.2)

module _ {A : Type 0} where
  pub nil_of : (t : List A) → ((c : A) → Has c t → ⊥) → t ≡ []
  nil_of [] f = refl
  nil_of (x ∷ t) f = absurd (f x (inl refl))

  keep_push : (q : A → Bool) (b : Bool) (x : A) (u t : List A) → (q x ≡ true → b ≡ true) → keep q u ≡ keep q t → keep q (push b x u) ≡ push (q x) x (keep q t)
  keep_push q true x u t f e = ap (push (q x) x) e
  keep_push q false x u t f e =
      ⊎_elim (λ (h : q x ≡ true). absurd (false≢true (f h))) (λ (h : q x ≡ false). rw h e) (bool_cases (q x))

  pub keep_keep : (p q : A → Bool) (t : List A) → ((c : A) → q c ≡ true → p c ≡ true) → keep q (keep p t) ≡ keep q t
  keep_keep p q [] f = refl
  keep_keep p q (x ∷ t) f = keep_push q (p x) x (keep p t) t (f x) (keep_keep p q t f)

  keep_of_push : (p : A → Bool) (b : Bool) (x : A) (u : List A) → keep p (push b x u) ≡ push (b && p x) x (keep p u)
  keep_of_push p true x u = refl
  keep_of_push p false x u = refl

  -- two filters are one
  pub keep_both : (p q : A → Bool) (xs : List A) → keep p (keep q xs) ≡ keep (λ x. q x && p x) xs
  keep_both p q [] = refl
  keep_both p q (x ∷ xs) = keep_of_push p (q x) x (keep q xs) ∙ ap (push (q x && p x) x) (keep_both p q xs)

  pub keep_ext : (p q : A → Bool) (xs : List A) → ((x : A) → Has x xs → p x ≡ q x) → keep p xs ≡ keep q xs
  keep_ext p q [] h = refl
  keep_ext p q (x ∷ xs) h = λ i. push (h x (inl refl) i) x (keep_ext p q xs (λ y m. h y (inr m)) i)

  pub keep_all : (p : A → Bool) (xs : List A) → ((x : A) → Has x xs → p x ≡ true) → keep p xs ≡ xs
  keep_all p [] h = refl
  keep_all p (x ∷ xs) h = λ i. push (h x (inl refl) i) x (keep_all p xs (λ y m. h y (inr m)) i)

  pub keep_none : (p : A → Bool) (xs : List A) → ((x : A) → Has x xs → p x ≡ false) → keep p xs ≡ []
  keep_none p [] h = refl
  keep_none p (x ∷ xs) h = rw (h x (inl refl)) (keep_none p xs (λ y m. h y (inr m)))

  pub any_false : (p : A → Bool) (xs : List A) → ((x : A) → Has x xs → p x ≡ false) → any p xs ≡ false
  any_false p [] h = refl
  any_false p (x ∷ xs) h = rw (h x (inl refl)) (any_false p xs (λ y m. h y (inr m)))

  -- no test passes, so none of them does
  pub false_any : (p : A → Bool) (x : A) (xs : List A) → any p xs ≡ false → Has x xs → p x ≡ false
  false_any p x xs h m = ⊎_elim (λ (e : p x ≡ true). not_both_lem (any p xs) (any_has p x xs m e) h) (λ (e : p x ≡ false). e) (bool_cases (p x))

  pub not_all : (p : A → Bool) (xs : List A) → all p xs ≡ false → (x : A) × Has x xs × (p x ≡ false)
  not_all p [] h = absurd (true≢false h)
  not_all p (y ∷ ys) h =
      ⊎_elim (λ (e : p y ≡ true). let r = not_all p ys (rw e at h) in (r.0, inr r.1, r.2)) (λ (e : p y ≡ false). (y, inl refl, e)) (bool_cases (p y))

  pub has_length : (x : A) (xs : List A) → Has x xs → 1 ≤ length xs
  has_length x [] m = absurd m
  has_length x (y ∷ ys) m = omega arith

  push_append : (b : Bool) (x : A) (u v : List A) → push b x (u ++ v) ≡ push b x u ++ v
  push_append true x u v = refl
  push_append false x u v = refl

  pub keep_append : (p : A → Bool) (xs ys : List A) → keep p (xs ++ ys) ≡ keep p xs ++ keep p ys
  keep_append p [] ys = refl
  keep_append p (x ∷ xs) ys = ap (push (p x) x) (keep_append p xs ys) ∙ push_append (p x) x (keep p xs) (keep p ys)

pub length_push : {A : Type 0} (b : Bool) (x : A) (xs : List A) → length (push b x xs) ≤ suc (length xs)
length_push true x xs = omega arith
length_push false x xs = omega arith

pub length_keep : {A : Type 0} (p : A → Bool) (xs : List A) → length (keep p xs) ≤ length xs
length_keep p [] = omega arith
length_keep p (x ∷ xs) = omega (arith, length_keep p xs, length_push (p x) x (keep p xs))

pub any_append : {A : Type 0} (p : A → Bool) (xs ys : List A) → any p (xs ++ ys) ≡ (any p xs || any p ys)
any_append p [] ys = refl
any_append p (x ∷ xs) ys = ap (◌||◌ (p x)) (any_append p xs ys) ∙ sym (or_assoc (p x) (any p xs) (any p ys))

pub flat_append : {A : Type 0} (xs ys : List (List A)) → flat (xs ++ ys) ≡ flat xs ++ flat ys
flat_append [] ys = refl
flat_append (x ∷ xs) ys = ap (◌++◌ x) (flat_append xs ys) ∙ sym (append_assoc x (flat xs) (flat ys))

pub each_append : {A B : Type 0} (f : A → B) (xs ys : List A) → each f (xs ++ ys) ≡ each f xs ++ each f ys
each_append f [] ys = refl
each_append f (x ∷ xs) ys = ap (◌∷◌ (f x)) (each_append f xs ys)

-- what a filter keeps of a list's own elements
pub mem_keep : (p : ℕ → Bool) (c : ℕ) (xs : List ℕ) → Has c xs → mem c (keep p xs) ≡ p c
mem_keep p c xs i =
    bool_ext (mem c (keep p xs)) (p c) (λ h. (has_keep p c xs (mem_has c (keep p xs) h)).1) (λ h. has_mem c (keep p xs) (keep_has p c xs i h))

pub mem_not : (c : ℕ) (xs : List ℕ) → (Has c xs → ⊥) → mem c xs ≡ false
mem_not c xs n = ⊎_elim (λ (h : mem c xs ≡ true). absurd (n (mem_has c xs h))) (λ (h : mem c xs ≡ false). h) (bool_cases (mem c xs))

pub mem_ext : (c : ℕ) (xs ys : List ℕ) → (Has c xs → Has c ys) → (Has c ys → Has c xs) → mem c xs ≡ mem c ys
mem_ext c xs ys f g = bool_ext (mem c xs) (mem c ys) (λ h. has_mem c ys (f (mem_has c xs h))) (λ h. has_mem c xs (g (mem_has c ys h)))

pub from_has : (n i c : ℕ) → Has c (from i n) → (i ≤ c) × (c < i + n)
from_has zero i c m = absurd m
from_has (suc n) i c (inl e) = (omega arith, omega arith)
from_has (suc n) i c (inr m) = let h = from_has n (suc i) c m in (omega arith, omega arith)

pub length_from : (n i : ℕ) → length (from i n) ≡ n
length_from zero i = refl
length_from (suc n) i = let h = length_from n (suc i) in omega arith

pub length_each : {A B : Type 0} (f : A → B) (xs : List A) → length (each f xs) ≡ length xs
length_each f [] = refl
length_each f (x ∷ xs) = ap suc (length_each f xs)
