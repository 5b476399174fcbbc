-- The seat goes into the struct.
use Rattle.atomic_table.proofs.Names.{◌≡◌, [], ◌∷◌, ◌++◌, List, refl, Val, vstruct, vcons, vnil, of_list, SProp, emp, fsep, ‵, raw, ◌⊛◌, ◌$◌, ◌∵◌, !, qed, by, move, keep, split, fjoin, fpack, use0, feq_i, of_opd, no_more, and_then, returns, enter, alloc_all, pass_all, free_all, look_at, get, sets, agg, tables, yes, RattleType, owns, Valss, types_at, plain, nothing, alive, Stays, walk_of, stay_dropped, Goes-dropped, fact, fact_i, heard}
use denote.Builtin.{u8}
use Rattle.atomic_table.proofs.Walks.{proved, leaves}
use Rattle.atomic_table.proofs.Fields.{token_val, token_told}
use Rattle.atomic_table.specs.contracts.shared.Seat as seat
use Rattle.wp_arrive.specs.contracts.view.View as view
use Rattle.wp_arrive.specs.contracts.arrivals.Pass.TheInside as inside
use Rattle.wp_arrive.specs.declared.arrivals.Pass.TheInside as declared
use Rattle.wp_arrive.specs.declared.arrivals.Pass.TheView as views
use Rattle.wp_arrive.specs.Seen.{PassView, seen}
use Rattle.wp_arrive.specs.contracts.arrivals.Pass.of as f
use Rattle.wp_arrive.proofs.arrivals.Pass.of.Statement.{statement}
use Rattle.wp_arrive.proofs.arrivals.Pass.of.Code as code

abbrev Sr : RattleType
Sr = seat.the_row u8 view.the_row

abbrev stayed : Stays f.ended.signature.params f.ended.kept
stayed = (stay_dropped (plain (λ _. Sr)) yes, tt)

abbrev pass_val : Val
pass_val = vstruct (vcons token_val vnil)

pub of_spec : {M : Type 1} → statement M
of_spec 𝓤 𝓛 𝓜 𝓡 wired =
    let 𝓣 = tables 𝓤 𝓛.H 𝓜 𝓡 𝓡.env in let c = f.clauses 𝓛 𝓜.mem 𝓡.returns in let S = f.ended.signature in
    proved 𝓛 f.ended stayed c 𝓜 𝓡 (Goes-dropped 𝓛 0 (plain (λ _. Sr)) yes (λ κs x w. refl), tt)
    f.Key.name code.function (code.unfolded 𝓤 𝓛.H 𝓜 𝓡 wired)
    (λ κs. ((λ _. token_val ∷ []), tt)) (λ κs. ((λ x vs so. token_told u8 view.the_row vs so.0), tt)) (λ κs qs bounds a gh are.
    let x : Sr.Denot = a.0 in let r : PassView = seen x.table_id x.me.0.marks x.me.0.parts in
    let y : (walk_of 𝓛 f.ended stayed c).Ghost = ((κs, qs, bounds, a, (token_val ∷ [], tt)), gh) in let Post : Val → SProp 𝓤 = (walk_of 𝓛 f.ended stayed c).post y in
    qed 𝓛 ((raw (alive 𝓛 S κs qs) ⊛ ‵ (owns (types_at S.params κs) a y.0.4)) ∷ raw (fact 𝓤 (x.me.1 ≡ [])) ∷ []) ∵
    split ! $ move ! (2 ∷ []) $ heard ! (x.me.1 ≡ []) (λ empty. move ! (1 ∷ 0 ∷ []) $
    feq_i ! (List Val) (pass_val ∷ []) (pass_val ∷ []) refl $ fjoin ! $
    fpack ! (Valss (Sr ∷ [])) (λ vss. fsep (base.Fml.feq (List Val) (pass_val ∷ []) (vstruct (of_list (vss.0 ++ [])) ∷ [])) (owns (Sr ∷ []) (x, tt) vss)) (token_val ∷ [], tt) $
    nothing ! $ move ! (1 ∷ 0 ∷ []) $ fjoin ! $ nothing ! $ move ! (1 ∷ 0 ∷ []) $ fjoin ! $
    fpack ! ((z : declared.Inside) × ((views.view z ≡ r) × views.invariant z)) (λ z. fsep (inside.the_row.own_val z.0 (pass_val ∷ [])) base.Fml.ftrue) (record { seat = x }, (refl, empty)) $
    enter ! 𝓣.C 𝓣.Λ code.function (token_val ∷ []) Post $ alloc_all ! (λ l. pass_all ! refl ((tt, (tt, tt)), tt) $
    sets ! (of_opd ! (get ! refl)) refl (tt, (tt, tt)) $ sets ! (agg ! (and_then ! (get ! refl) (no_more !))) refl (tt, ((tt, tt), tt)) $
    use0 𝓛 (raw (fact 𝓤 (r ≡ r))) (fact_i 𝓤 (r ≡ r) (emp 𝓤) refl) $ nothing ! $ nothing ! $ fjoin ! $
    returns ! (look_at ! 0 refl) $ free_all ! refl $ keep ! (3 ∷ 0 ∷ 2 ∷ 1 ∷ []) $ by ! (leaves 𝓛 f.ended stayed c y pass_val r (tt, tt) (tt, tt)))))
