-- The bytes stand behind what stands in front of them.
use Rattle.std.proofs.Common.{◌≡◌, ◌+◌, ◌-◌, length, refl, arith, drop-drop}
use Rattle.listing.specs.Capture.{head_of, record_of}
use Rattle.listing.proofs.Numbers.{laid_behind}
use Rattle.listing.proofs.capture.lay.Goals as goal

pub returns : goal.returns
unfolding record_of head_of
returns c =
    let a = c.args in
    let kept = a.kept.now in
    let n : 16 + (16 + length kept - 16) ≡ 16 + length kept = omega arith in (
      refl,
      rw (c.copy_from_slice.ensures.after, drop-drop (16 + length kept - 16) 16 c.head.new.buffer, n, c.head.ensures)
          (laid_behind a.buffer.now (head_of a.stamp (length kept) a.original) kept 16 refl),
    )
