-- `owners::derived::clear_first` meets its contract. Assumes nothing.
use Rattle.std.proofs.Common.{◌≡◌, ℕ, ◌+◌, ◌-◌, ◌<◌, ◌≤◌, List, ◌++◌, get_or, length, take, drop, sym, ap, ◌∙◌, ⊎_elim, arith, length-append, length-drop}
use Rattle.std.proofs.lemmas.List.{length-take-le, get_or-replicate}
use lib.ListN.{get_or-append}
use lib.Seq.{ext_get_or, get_or-drop, get_or-append_right}
use Rattle.paper.specs.Count.{over}
use Rattle.paper.proofs.Logic.{lt-or-ge}
use Rattle.paper.proofs.Count.{length_over, get_d_over, get_d-over-out}
use Rattle.owners.proofs.derived.clear_first.Goals as goal

-- a list whose first n entries are written over by n that are 0
front-cleared : (n : ℕ) (front l : List ℕ) → n ≤ length l → length front ≡ n → ((k : ℕ) → k < n → get_or front k 0 ≡ 0)
    → front ++ drop n l ≡ over (λ _. 0) n l
front-cleared n front l h z clear =
    ext_get_or 0 (front ++ drop n l) (over (λ _. 0) n l)
    (omega (arith, length-append front (drop n l), length-drop n l, length_over (λ _. 0) n l))
    (λ k r.
    let m : k < length l = omega (arith, length-append front (drop n l), length-drop n l) in
    ⊎_elim
    (λ (x : k < n). get_or-append front (drop n l) 0 k (omega arith) ∙ clear k x ∙ sym (get_d_over (λ _. 0) n l k x m))
    (λ (x : n ≤ k).
    let q : n + (k - length front) ≡ k = omega arith in
    get_or-append_right front (drop n l) k 0 (omega arith) ∙ get_or-drop n l (k - length front) 0
    ∙ ap (λ (i : ℕ). get_or l i 0) q ∙ sym (get_d-over-out (λ _. 0) n l k x))
    (lt-or-ge k n))

pub returns : goal.returns
returns c =
    let long = length-take-le c.args.n c.args.column.now c.requires in
    let zeros = c.fill.ensures.after (λ y e. e) in
    front-cleared _ _ _ c.requires (c.fill.ensures.len ∙ long)
    (λ k h. ap (λ (x : List ℕ). get_or x k 0) zeros ∙ get_or-replicate (length (take c.args.n c.args.column.now)) k 0 0 (omega (arith, long)))
