-- `host_receive::receive_in_place`: the heading's refusals, then the flag, then where the number lies.
-- Assumes nothing.
use Rattle.std.proofs.Common.{sym, refl, ◌∙◌, arith}
use Rattle.refusal.proofs.Numbers.{number-positive, zero-at_ok}
use Rattle.host_words.specs.Words.{pair_of}
use Rattle.host_words.proofs.Words.{next-lt}
use Rattle.host_receive.proofs.number.Window.{not_new, new_in}
use Rattle.host_receive.proofs.Awaiting.{stays, awaited, refused-heading, framed, none-there, answered-by-number}
use Rattle.host_receive.proofs.receive_in_place.Goals as goal

pub returns-in-Err : goal.returns-in-Err
returns-in-Err c =
    let a = c.args in
    let e = refused-heading (pair_of a.words.now) a.f.now _ _ _
    c.own-own.ensures c.peer-peer.ensures (rw c.in-Err.is at c.check_heading.ensures) a.memory.now
    (λ z. omega (arith, number-positive c.in-Err.reason, z)) in
    let s = stays _ _ _ _ e in
    let told = rw c.into-in-Err.ensures at c.refuse-in-Err.ensures in
    (λ l. (s.0, s.1, told ∙ s.2), λ n. absurd (n c.if-words-ne-WORDS.false), λ q. refl)

pub returns-then-head-eq0 : goal.returns-then-head-eq0
returns-then-head-eq0 c =
    let a = c.args in
    let p = pair_of a.words.now in
    -- past the tests before: the words hold a pair, and the heading is not refused
    let long = c.if-words-ne-WORDS.false in
    let good =
    framed p a.f.now _ _ _ c.own-own.ensures c.peer-peer.ensures c.check_heading.ensures (zero-at_ok c.in_default.is)
    in
    let s = stays _ _ _ _
    (none-there p a.f.now a.memory.now good _ c.frame_header-head.ensures c.if-head-eq0.true) in
    (λ l. s, λ n. absurd (n long), λ q. refl)

pub returns-then-not-is_new : goal.returns-then-not-is_new
returns-then-not-is_new c =
    let a = c.args in
    let p = pair_of a.words.now in
    -- past the tests before: the words hold a pair, and the heading is not refused
    let long = c.if-words-ne-WORDS.false in
    let good =
    framed p a.f.now _ _ _ c.own-own.ensures c.peer-peer.ensures c.check_heading.ensures (zero-at_ok c.in_default.is)
    in
    let w = awaited p a.f.now good _ c.frame_header-head.ensures c.if-head-eq0.false _
    (rw c.next.ensures at c.distance-d.ensures) (next-lt a.words.now)
    (rw c.marks-marks.ensures at c.marks-marks.type_inv) in
    let New-is = rw c.marks-marks.ensures at c.is_new.ensures in
    let old = not_new p.marks _ (sym New-is ∙ c.if-not-is_new.true) in
    let s = stays _ _ _ _ (answered-by-number p a.f.now a.memory.now _ _ w old) in (
      λ l. (
        s.0,
        s.1,
        c.answer_by_number.ensures
            ∙ rw (c.own-own.ensures, c.peer-peer.ensures, c.marks-marks.ensures)
            s.2,
      ),
      λ n. absurd (n long),
      λ q. refl,
    )

pub returns : goal.returns
returns c =
    let a = c.args in
    let p = pair_of a.words.now in
    -- past the tests before: the words hold a pair, and the heading is not refused
    let long = c.if-words-ne-WORDS.false in
    let good =
    framed p a.f.now _ _ _ c.own-own.ensures c.peer-peer.ensures c.check_heading.ensures (zero-at_ok c.in_default.is)
    in
    let w = awaited p a.f.now good _ c.frame_header-head.ensures c.if-head-eq0.false _
    (rw c.next.ensures at c.distance-d.ensures) (next-lt a.words.now)
    (rw c.marks-marks.ensures at c.marks-marks.type_inv) in
    let New-is = rw c.marks-marks.ensures at c.is_new.ensures in
    let lies = new_in p.marks _ (sym New-is ∙ c.if-not-is_new.false) in
    let k = c.take_in.ensures _ w lies.0 lies.1 long in
    (λ l. (k.0, k.1, k.2), λ n. absurd (n long), k.3)
