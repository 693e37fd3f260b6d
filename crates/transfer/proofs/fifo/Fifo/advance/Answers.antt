use Rattle.std.proofs.Common.{◌≡◌, ◌+◌, length, take, drop, min, sym, ap, ◌∙◌, arith, length-take, drop-drop}
use Rattle.std.proofs.lemmas.List.{drop_min}
use Rattle.transfer.proofs.fifo.Fifo.advance.Goals as goal

pub returns-clause-left : goal.returns-clause-left
returns-clause-left g c =
    let f = c.self.inside in
    let ts = take f.count f.slots in
    let long : length ts ≡ f.count = simp length-take (omega (arith, c.self.invariant)) in
    let moves : drop (min (f.place + 1) f.count) ts ≡ drop 1 (drop f.place ts) =
    ap (λ n. drop (min (f.place + 1) n) ts) (sym long) ∙ drop_min (f.place + 1) ts ∙ sym (drop-drop 1 f.place ts) in
    rw (← c.self.view_is) (simp c.min-self-inside.ensures moves)
