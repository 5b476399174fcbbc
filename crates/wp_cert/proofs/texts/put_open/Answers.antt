use Rattle.std.proofs.Common.{◌≡◌, ◌∙◌, ◌++◌, ◌∷◌, [], ℕ, List, ap, append_assoc}
use Rattle.std.specs.Prelude.{codes}
use Rattle.std.specs.Fmt.{decimal}
use Rattle.wp_cert.specs.Texts.{name_at}
use Rattle.wp_cert.proofs.texts.put_open.Goals as goal

regroup : (a w d x n e : List ℕ) → (((a ++ (w ++ d)) ++ x) ++ n) ++ e ≡ a ++ ((((w ++ d) ++ x) ++ n) ++ e)
regroup a w d x n e = simp append_assoc

glued : (a w d x n e o1 o2 o3 o4 : List ℕ) → o1 ≡ a ++ (w ++ d) → o2 ≡ o1 ++ x → o3 ≡ o2 ++ n → o4 ≡ o3 ++ e → o4 ≡ a ++ ((((w ++ d) ++ x) ++ n) ++ e)
glued a w d x n e o1 o2 o3 o4 p1 p2 p3 p4 =
    p4 ∙ ap (λ (l : List ℕ). l ++ e) (p3 ∙ ap (λ (l : List ℕ). l ++ n) (p2 ∙ ap (λ (l : List ℕ). l ++ x) p1)) ∙ regroup a w d x n e

pub returns : goal.returns
returns c =
    glued c.args.out.now.items (codes "; not closed: state ") (decimal c.args.state) (codes " act ") (name_at c.args.names.now c.args.act) (10 ∷ [])
    c.put_counted.new.out.items c.extend_from_slice.new.self.items c.put_name.new.out.items c.push.new.self.items
    c.in_ok-put_counted.ensures c.in_ok-extend_from_slice.ensures.items c.in_ok-put_name.ensures c.in_ok-push.ensures.items
