-- A contract that is an equation has one outcome, since two that are the same third are the same. Assumes nothing.
use mathlib.Core.Path.{◌≡◌, sym, ◌∙◌}

module _ {A : Type 0} where
  -- two values that are what was promised are equal
  abbrev pub Once : A → Type 0
  Once promised = (o o' : A) → o ≡ promised → o' ≡ promised → o ≡ o'

  pub once : (promised : A) → Once promised
  once promised o o' e e' = e ∙ sym e'
