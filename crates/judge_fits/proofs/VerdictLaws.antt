-- The verdict, off the root's first row.
use Prim.Native.Nat.{ℕ, ◌<◌}
use native.Mathlib.Nat.{le_refl}
use native.Mathlib.Omega.{arith}
use mathlib.Core.List.{List, [], ◌∷◌}
use mathlib.Core.Path.{◌≡◌, refl, sym, ap, ◌∙◌, subst}
use mathlib.Core.Bool.{Bool, true, false, ◌&&◌, false≢true}
use lib.ListN.{length, get_or}
use lib.Seq.{slice, take-length}
use Rattle.std.specs.List.{list_all}
use Rattle.rules.specs.Words.{keep, mem, all, Has}
use Rattle.rules.specs.Trees.{Tree, size, labels, In}
use Rattle.rules.specs.WellFormed.{WellFormed}
use Rattle.rules.specs.Holds.{Holds}
use Rattle.rules.specs.Calls.{code_count}
use Rattle.rules.proofs.ListLaws.{has_mem, all_has, has_all}
use Rattle.code_sets.specs.Bits.{has}
use Rattle.judge_rows.specs.Rows.{kept, Says}
use Rattle.judge_meanings.specs.Means.{Means}
use Rattle.judge_meanings.proofs.KeepLaws.{keep_within}
use Rattle.judge_rows.proofs.TableLaws.{kept_row}
use Rattle.judge_meanings.proofs.LanguageLaws.{own}
use Rattle.judge_subtrees.specs.Entries.{labelled}
use Rattle.judge_nodes.specs.Children.{Ready}
use Rattle.judge_fits.specs.Fits.{FitSays}
use Rattle.judge_subtrees.proofs.EntryLaws.{size_some}
use Rattle.judge_subtrees.proofs.LabelLaws.{labelled_codes}

-- the test of every event
pub all_is : (p : ℕ → Bool) (e : List ℕ) → list_all p e ≡ all p e
all_is p [] = refl
all_is p (c ∷ e) = ap (λ (b : Bool). p c && b) (all_is p e)

-- rows that mean the tree tell whether it has an episode of its own codes
whole_says : (S : ℕ → Bool) (t : Tree) (e : List ℕ) (R : ℕ → ℕ → Bool) → ((c : ℕ) → Has c e → S c ≡ true) → Means S (λ w. In t w) e R → Says (R 0 (length e)) (In t e)
unfolding Means
whole_says S t e R within h =
    let n = length e in
    let same : keep S (slice 0 n e) ≡ e = ap (keep S) (take-length e) ∙ keep_within S e within in (
      λ p. subst (λ (w : List ℕ). In t w) same ((h 0 n).0 p).holds,
      λ l. (h 0 n).1 (record { order = omega arith; inside = le_refl n; holds = subst (λ (w : List ℕ). In t w) (sym same) l }),
    )

module _ (b e work : List ℕ) (n : ℕ) (S : ℕ → Bool) (hS : (c : ℕ) → S c ≡ labelled b 0 n c) where
  own_codes : (t : Tree) → Holds t b 0 → size t ≡ n → WellFormed code_count t → (c : ℕ) → S c ≡ mem c (labels t)
  own_codes t held len w c = hS c ∙ ap (λ (m : ℕ). labelled b 0 m c) (sym len) ∙ labelled_codes t b 0 c held w.coded

  -- an episode of the tree's codes: place n of the first row
  pub root_says : (r : Bool) → all S e ≡ true → r ≡ has (get_or work 0 0) (length e) → Ready b e work 0 n → FitSays b n e r
  unfolding FitSays Ready
  root_says r within hr ready t held len w =
      let some : 0 < n = omega (arith, size_some t) in
      subst (λ (x : Bool). Says x (In t e)) (kept_row work 0 0 (length e) (omega arith) ∙ sym hr)
      (whole_says (λ c. mem c (labels t)) t e (kept work 0) (λ c m. sym (own_codes t held len w c) ∙ all_has S c e within m) (ready t 0 (omega arith) some held w))

  -- a code that no leaf has
  pub root_misfit : all S e ≡ false → FitSays b n e false
  unfolding FitSays
  root_misfit outside t held len w = (
    λ y. absurd (false≢true y),
    λ i. absurd (false≢true (sym outside ∙ has_all S e (λ c m. own_codes t held len w c ∙ has_mem c (labels t) (own t e i c m)))),
  )
