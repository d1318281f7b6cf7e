-- What `first_of` answers, exactly: an answer is given where its test holds and no earlier one does. Assumes nothing.
use Prim.Native.Nat.{ℕ, ◌<◌}
use native.Mathlib.Omega.{arith}
use mathlib.Core.Path.{◌≡◌, refl, ap, ◌∙◌}
use mathlib.Core.Bool.{Bool, true, false, cond}
use mathlib.Core.List.{List, [], ◌∷◌}
use mathlib.Core.Logic.{◌⊎◌, inl, inr}
use Rattle.laws.specs.Lists.{first_of}

module _ {A : Type 0} where
  -- the first test holds and has the answer v, or it does not hold and v is given after it
  abbrev pub Given : List (Bool × A) → A → A → Type 0
  Given [] last v = last ≡ v
  Given (t ∷ ts) last v = ((t.0 ≡ true) × (t.1 ≡ v)) ⊎ ((t.0 ≡ false) × Given ts last v)

  one : (b : Bool) (x y v : A) (P : Type 0) → (y ≡ v → P) → cond b x y ≡ v → ((b ≡ true) × (x ≡ v)) ⊎ ((b ≡ false) × P)
  one true x y v P f e = inl (refl, e)
  one false x y v P f e = inr (refl, f e)

  pub given : (ts : List (Bool × A)) (last v : A) → first_of ts last ≡ v → Given ts last v
  given [] last v e = e
  given (t ∷ ts) last v e = one t.0 t.1 (first_of ts last) v (Given ts last v) (given ts last v) e

  pub first : (ts : List (Bool × A)) (last v : A) → Given ts last v → first_of ts last ≡ v
  first [] last v e = e
  first (t ∷ ts) last v (inl h) = ap (λ (b : Bool). cond b t.1 (first_of ts last)) h.0 ∙ h.1
  first (t ∷ ts) last v (inr h) = ap (λ (b : Bool). cond b t.1 (first_of ts last)) h.0 ∙ first ts last v h.1

  -- no test holds
  abbrev pub Passed : List (Bool × A) → Type 0
  Passed [] = Unit {0}
  Passed (t ∷ ts) = (t.0 ≡ false) × Passed ts

  -- each answer is right where its test holds
  abbrev pub Answers : (A → Type 0) → List (Bool × A) → Type 0
  Answers P [] = Unit {0}
  Answers P (t ∷ ts) = (t.0 ≡ true → P t.1) × Answers P ts

  pub answered : (P : A → Type 0) (ts : List (Bool × A)) (last : A) → Answers P ts → (Passed ts → P last) → P (first_of ts last)
  answered P [] last a f = f tt
  answered P (t ∷ ts) last a f = pick t.0 refl (answered P ts last a.1)
    where
      pick : (b : Bool) → t.0 ≡ b → ((Passed ts → P last) → P (first_of ts last)) → P (cond b t.1 (first_of ts last))
      pick true e later = a.0 e
      pick false e later = later (λ p. f (e, p))

-- ---- answers that are numbers, and 0 the last: it is given where no test holds

-- no test answers 0
abbrev pub Numbered : List (Bool × ℕ) → Type 0
Numbered [] = Unit {0}
Numbered (t ∷ ts) = (0 < t.1) × Numbered ts

pub passed : (ts : List (Bool × ℕ)) → Numbered ts → first_of ts 0 ≡ 0 → Passed ts
passed [] n e = tt
passed (t ∷ ts) n e = pick (given (t ∷ ts) 0 0 e) (passed ts n.1)
  where
    pick : Given (t ∷ ts) 0 0 → (first_of ts 0 ≡ 0 → Passed ts) → Passed (t ∷ ts)
    pick (inl h) later = absurd (omega (arith, n.0, h.1))
    pick (inr h) later = (h.0, later (first ts 0 0 h.1))
