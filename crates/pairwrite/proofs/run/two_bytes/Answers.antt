use Rattle.std.proofs.Common.{◌≡◌, ℕ, List, length, take, drop, refl, arith}
use Rattle.pairwrite.proofs.Reading.{two, at_once, ends, one_by_one}
use Rattle.pairwrite.proofs.run.two_bytes.Goals as goal

-- behind the first of two bytes is one place
place : (bytes : List ℕ) → length bytes ≡ 2 → length (take 1 (drop 1 bytes)) ≡ 1
place bytes e = let (x, y, same) = two bytes e in rw same refl

pub returns-then-count-eq2-clause-read : goal.returns-then-count-eq2-clause-read
returns-then-count-eq2-clause-read g c =
    let read = c.in_ok-count.ensures in
    at_once g.I.Input.gives g.I.Input.ended _ _ _ _ c.if-count-eq2.true read.places read.given

pub returns-then-last-eq0-clause-read : goal.returns-then-last-eq0-clause-read
returns-then-last-eq0-clause-read g c =
    let read = c.in_ok-count.ensures in
    let more = c.in_ok-last.ensures in
    let alone = place c.next.new.bytes read.places in
    ends g.I.Input.gives g.I.Input.ended _ _ _ _ _ _ _ read.places read.few c.if-count-eq0.false c.if-count-eq2.false
    read.given more.given c.if-last-eq0.true (more.end c.if-last-eq0.true (omega (arith, alone)))

pub returns-clause-read : goal.returns-clause-read
returns-clause-read g c =
    let read = c.in_ok-count.ensures in
    let more = c.in_ok-last.ensures in
    let alone = place c.next.new.bytes read.places in
    let (x, y, same) = two c.next.new.bytes read.places in
    one_by_one g.I.Input.gives g.I.Input.ended _ _ _ _ _ _ _ read.places read.few c.if-count-eq0.false c.if-count-eq2.false
    read.given more.given _ (omega (arith, alone, more.places)) (rw same refl) (omega (arith, alone, more.few))
    c.if-last-eq0.false
