-- The part that was lent comes back as the digits.
use Rattle.std.proofs.Common.{◌+◌, ◌-◌, ◌*◌, ◌≤◌, length, take, drop, refl, ◌∙◌, sym, arith}
use borrow.Author.Tests.{leb-true, leb-false}
use Rattle.hexline.specs.Digits.{spelt_of}
use Rattle.hexline.proofs.Spelt.{spelt_length}
use Rattle.script.proofs.Laying.{no_room, part_length, came_back, whole, shown_none, shown_some}
use Rattle.script.proofs.text.put_bytes.Goals as goal

pub returns-then-is_empty : goal.returns-then-is_empty
returns-then-is_empty c = rw (shown_none c.args.bytes.now (sym c.if-is_empty.ensures)) at c.put.ensures

pub returns-then-not-has_room : goal.returns-then-not-has_room
returns-then-not-has_room c =
    let a = c.args in
    let full = leb-false (a.at + 2 * length a.bytes.now) (length a.text.now) (sym c.if-not-has_room.ensures) in
    rw (← shown_some a.bytes.now (sym c.if-is_empty.ensures)) (no_room a.text.now a.at (spelt_of a.bytes.now) (rw (spelt_length a.bytes.now) full))

pub returns : goal.returns
returns c =
    let a = c.args in
    let n = 2 * length a.bytes.now in
    let size = spelt_length a.bytes.now in
    let room = leb-true (a.at + n) (length a.text.now) (sym c.if-not-has_room.ensures) in
    let part = take (a.at + n - a.at) (drop a.at a.text.now) in
    let short : length part ≤ n = omega (arith, part_length a.text.now a.at n room) in
    let back = c.spell.ensures.1 ∙ whole (spelt_of a.bytes.now) part c.spell.result (omega (arith, short, c.spell.ensures.0)) in
    rw (← shown_some a.bytes.now (sym c.if-is_empty.ensures)) (came_back a.text.now (spelt_of a.bytes.now) _ a.at _ (rw size room) (rw size refl) back)
