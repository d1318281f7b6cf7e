-- A word that begins among what is kept ends one further where it has one character.
use Rattle.std.proofs.Common.{◌<◌, arith}
use borrow.Author.Tests.{lt-ltb}
use Rattle.script.proofs.Keeping.{only_it, only_not}
use Rattle.script.proofs.intake.is_only.Goals as goal

pub returns-then-length-start : goal.returns-then-length-start
returns-then-length-start c =
    let a = c.args in
    let near : a.start < 136 = omega arith in
    λ front word h. rw (lt-ltb a.start 136 near, only_not front word _ _ _ h near a.c c.if-length-start.true)

pub returns : goal.returns
returns c =
    let a = c.args in
    let near : a.start < 136 = omega arith in
    λ front word h. rw (lt-ltb a.start 136 near) (only_it front word _ _ _ h near a.c c.if-length-start.false)
