-- What is left of the key, read into the record that is filled up to `at`, gives the whole.
use mathlib.Core.Path.{◌∙◌}
use borrow.Author.Rules.{rules}
use Rattle.value.specs.declared.Kind.TheVariants.{U8}
use Rattle.key.proofs.ReadSteps.{read_bad_count, read_bad_length, read_start, read_room, read_stop, read_step, read_end}
use Rattle.key.proofs.reading.read.Goals as goal

pub returns-then-bad_count : goal.returns-then-bad_count
returns-then-bad_count c = c.refused.ensures ∙ read_bad_count c.args.shape c.args.key.now c.bad_count.ensures c.if-bad_count.true

pub returns-then-key-key_length : goal.returns-then-key-key_length
returns-then-key-key_length c =
    c.refused-then-key-key_length.ensures ∙ read_bad_length c.args.shape c.args.key.now c.bad_count.ensures
    c.if-bad_count.false c.key_length.ensures c.if-key-key_length.true

pub loop-at-init : goal.loop-at-init
loop-at-init c =
    read_start c.args.shape c.args.key.now c.bad_count.ensures c.if-bad_count.false c.key_length.ensures
    (search rules) c.if-key-key_length.false c.blank-made.ensures

pub split_at-requires : goal.split_at-requires
split_at-requires c =
    read_room c.args.shape c.args.key.now c.loop-at.made c.loop-at.rest.now c.loop-at.at c.loop-at.invariant
    (record { kind = U8 }) c.loop-at-test.true c.bytes_of.ensures.0

pub returns-in_default : goal.returns-in_default
returns-in_default c =
    c.refused-in_default.ensures
    ∙ read_stop c.args.shape c.args.key.now c.loop-at.made c.loop-at.rest.now c.loop-at.at c.loop-at.invariant
    (record { kind = U8 }) c.loop-at-test.true c.bytes_of.ensures.0 c.split_at.ensures.front c.split_at.ensures.back
    c.value_in.ensures c.in_default.is

pub loop-at-preserved : goal.loop-at-preserved
loop-at-preserved c =
    read_step c.args.shape c.args.key.now c.loop-at.made c.loop-at.rest.now c.loop-at.at c.loop-at.invariant
    (record { kind = U8 }) c.loop-at-test.true c.bytes_of.ensures.0 c.split_at.ensures.front c.split_at.ensures.back
    c.value_in.ensures c.in-Some.is (search rules)

pub returns : goal.returns
returns c =
    c.from.ensures ∙ read_end c.args.shape c.args.key.now c.loop-at.made c.loop-at.rest.now c.loop-at.at c.loop-at.invariant c.loop-at-test.false
