-- The kinds are one, or they differ.
use mathlib.Core.Path.{◌≡◌, sym, ◌∙◌, ap}
use borrow.Author.Rules.{rules}
use denote.Enum.Bare.{same_true, same_false}
use Rattle.value.specs.Kinds.{kind_number}
use Rattle.value.specs.declared.Kind.{Kind}
use Rattle.value.specs.declared.Kind.TheVariants as kind
use Rattle.value.specs.contracts.Kind.{the_type}
use Rattle.value.specs.Meaning.{exact_of}
use Rattle.value.proofs.KindNumbers.{number_injective}
use Rattle.convert.specs.Convert.{convert_of}
use Rattle.convert.specs.Inner.{into_of}
use Rattle.convert.proofs.Exactly.{own_kind_lem, other_kind}
use Rattle.convert.proofs.convert.Goals as goal
use Rattle.convert.proofs.convert.Goals.{Else-eq}

pub returns-then-eq : goal.returns-then-eq
returns-then-eq c =
    let same = same_true the_type (search rules) _ _ (sym c.eq.ensures ∙ c.if-eq.true) in
    sym (own_kind_lem c.args.v c.args.to (ap kind_number (sym c.kind_of.ensures ∙ same)))

past : (c : Else-eq) → convert_of c.args.v c.args.to ≡ into_of c.args.to (exact_of c.args.v)
past c =
    other_kind c.args.v c.args.to
    (λ q. same_false the_type _ _ (sym c.eq.ensures ∙ c.if-eq.false) (c.kind_of.ensures ∙ number_injective _ _ q))

pub returns-in-F16-F32 : goal.returns-in-F16-F32
returns-in-F16-F32 c =
    c.half_to_f32.ensures
    ∙ ap (into_of kind.F32) (sym (ap exact_of c.in-F16-F32.is-0))
    ∙ ap (λ (k : Kind). into_of k (exact_of c.args.v)) (sym c.in-F16-F32.is-1)
    ∙ sym (past ((goal.at.returns-in-F16-F32 c).Else-eq))

pub returns-in_default : goal.returns-in_default
returns-in_default c = c.put.ensures ∙ ap (into_of _) c.parts_of.ensures ∙ sym (past ((goal.at.returns-in_default c).Else-eq))
