-- The low four bytes are what divisions by 256 leave.
use Rattle.std.proofs.Common.{◌≡◌, ◌+◌, ◌-◌, ◌/◌, ◌∙◌, take, drop, sym, arith, append_assoc, drop-drop}
use Rattle.std.proofs.Math.Nat.{div-div-eq-div-mul}
use Rattle.std.proofs.lemmas.List.Edits.{sets-eq}
use Rattle.listing.specs.Capture.{low_first}
use Rattle.listing.proofs.capture.number.Goals as goal

pub returns : goal.returns
returns c =
    let a = c.args in
    let out = a.buffer.now in
    let four : a.at + 4 - a.at ≡ 4 = omega arith in
    let third : a.n / 65536 ≡ a.n / 256 / 256 = sym (div-div-eq-div-mul a.n 256 256) in
    let fourth : a.n / 16777216 ≡ a.n / 256 / 256 / 256 = sym (div-div-eq-div-mul (a.n / 256) 256 256 ∙ div-div-eq-div-mul a.n 256 65536) in
    rw (four, c.copy_from_slice.ensures.after, c.to_le_bytes.ensures, sets-eq (low_first 4 a.n) out a.at c.requires, third, fourth, drop-drop 4 a.at out)
    (sym (append_assoc (take a.at out) (low_first 4 a.n) (drop (a.at + 4) out)))
