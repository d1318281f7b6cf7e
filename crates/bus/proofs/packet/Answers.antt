-- A refused call keeps all that it was given, and any other leaves what its parts left.
use Rattle.std.proofs.Common.{ℕ, List, ◌++◌, length, drop, rules, ap, ◌∙◌}
use Rattle.bus.proofs.Laying.{laid_front, said_short}
use Rattle.bus.proofs.Lent.{lend_is, lent, refused_leaves, accepted_leaves}
use Rattle.bus.proofs.Within.{said_within}
use Rattle.bus.proofs.packet.Goals as goal

pub returns-in-Err : goal.returns-in-Err
returns-in-Err c =
    let a = c.args in
    refused_leaves a.core a.memory.now a.reply.now a.packet.now c.in-Err.why (lend_is a.core a.memory.now a.reply.now _ _ _ c.judge_lend-lent.ensures c.is_sound-sound.ensures c.in-Err.is)

pub arrives-step-requires : goal.arrives-step-requires
arrives-step-requires c =
    let a = c.args in
    let l = lent a.core a.memory.now a.reply.now (lend_is a.core a.memory.now a.reply.now _ _ _ c.judge_lend-lent.ensures c.is_sound-sound.ensures c.in_default.is) in
    (l.sound, l.whole)

pub answered-answer-requires : goal.answered-answer-requires
answered-answer-requires c =
    let a = c.args in
    let l = lent a.core a.memory.now a.reply.now (lend_is a.core a.memory.now a.reply.now _ _ _ c.judge_lend-lent.ensures c.is_sound-sound.ensures c.in_default.is) in
    let s = c.arrives-step in
    said_within a.core l.sound a.packet.now s.result s.ensures.value _ (let w = l.whole in search rules)

pub returns : goal.returns
returns c =
    let a = c.args in
    let accepted = lend_is a.core a.memory.now a.reply.now _ _ _ c.judge_lend-lent.ensures c.is_sound-sound.ensures c.in_default.is in
    let l = lent a.core a.memory.now a.reply.now accepted in
    let s = c.arrives-step in
    let y = c.answered-answer in
    let front = rw c.unwrap-front.ensures at c.first_chunk_mut.ensures.cases in
    let within = said_within a.core l.sound a.packet.now s.result s.ensures.value (length s.new.memory) (let w = l.whole in search rules) in
    accepted_leaves a.core a.memory.now a.reply.now a.packet.now accepted s.result _ _ y.result s.ensures.value s.ensures.memory y.ensures.value
    (ap (λ (x : List ℕ). x ++ drop 1027 a.reply.now) y.ensures.reply ∙ laid_front _ _ a.reply.now (said_short s.result.says s.new.memory within) l.room front.same)
