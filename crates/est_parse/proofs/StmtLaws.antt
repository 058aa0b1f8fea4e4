-- Inner: judgements on statements.
use Rattle.std.proofs.Common.{◌≡◌, ◌⊎◌, inl, inr, ℕ, zero, suc, max, true, false, List, [], ◌∷◌, ◌++◌, Bool, Option, Some, None, Ok, Err, refl, sym, ◌∙◌, ap}
use Rattle.std.proofs.Common.{subst, arith}
use Rattle.std.proofs.lemmas.List.{append-nil}
use Rattle.base_types.specs.declared.place.Span.{Span}
use Rattle.est_ast.specs.declared.tokens.Token.{Token}
use Rattle.est_ast.specs.declared.tokens.Kind.TheVariants as kinds
use Rattle.est_ast.specs.declared.tokens.Reserved.{Reserved}
use Rattle.est_ast.specs.declared.tokens.Reserved.TheVariants as words
use Rattle.est_ast.specs.declared.tokens.Mark.{Mark}
use Rattle.est_ast.specs.declared.tokens.Mark.TheVariants as marks
use Rattle.est_ast.specs.declared.trees.Name.{Name}
use Rattle.est_ast.specs.declared.trees.Rename.{Rename}
use Rattle.est_ast.specs.Trees.{Expr, Delay, Stmt, At, Form, Nothing, Pause, Halt, Emit, Sustain, Await, AwaitCase, Present, PresentCase, Every, Repeat, Abort}
use Rattle.est_ast.specs.Trees.{AbortCase, WeakAbort, Suspend, Trap, Exit, Signal, Run, Seq, Par, Group, Part, Missing, Written, Handler, NoHandler, Handled}
use Rattle.est_ast.specs.Trees.{Stmts, NoStmts, MoreStmts, Cases, NoCases, MoreCases, stmts, cases}
use Rattle.est_ast.specs.Trees.{Loop as LoopForm, LoopEach}
use Rattle.est_ast.specs.Grammar.{word, mark, name, number, span_of, Over, Listed, Ends, Disjunction, SpellsExpr, SpellsEvent, SpellsDelay, SpellsCount}
use Rattle.est_ast.specs.Grammar.{SpellsTest, SpellsRename, SpellsRenames, Level, Whole, Line, Item, Spells, SpellsSeq, SpellsPar, SpellsStmts}
use Rattle.est_ast.specs.Grammar.{SpellsOtherStmts, SpellsItem, SpellsPart, SpellsDo, SpellsHandler, SpellsCases, SpellsOtherCases}
use Rattle.est_ast.specs.Nesting.{expr_nesting, delay_nesting, nesting, form_nesting, part_nesting, handler_nesting, stmts_nesting, cases_nesting}
use Rattle.base_reader.specs.Languages.{Empty, One, Then, Led, Both, Loop, Maybe, Parted, Placed}
use Rattle.base_reader.specs.Choice.{Made, Only, adds, fits}
use Rattle.std.specs.Option.{option_map_or}
use Rattle.base_reader.specs.Readings.{Read, Rule, picked, refuse, give, follow, mapped, both, on, the, trail}
use Rattle.base_reader.proofs.Exports.{Below, by_room, Advances, Shape, one_shape, no_shape, then_shape, either_shape, Lang, Reads, the-reads, give-reads}
use Rattle.base_reader.proofs.Exports.{both-reads, led-reads, trail-reads, ahead-reads, mapped-reads, told-reads, made-reads, placed-reads, same-reads}
use Rattle.base_reader.proofs.Exports.{shape-reads, Turn, or_turn, step_shape, step_depth, list_depth, Steps, or-steps, trailing-steps, step-reads, loop-reads}
use Rattle.base_reader.proofs.Exports.{Advances-step, Arm, arm, choose-lang, choose-reads, list_depth-flat}
use Rattle.est_parse.specs.declared.openings.Opening.{Opening}
use Rattle.est_parse.specs.declared.openings.Opening.TheVariants as openings
use Rattle.est_parse.specs.declared.openings.Flat.TheVariants as flats
use Rattle.est_parse.specs.declared.openings.Block.TheVariants as blocks
use Rattle.est_parse.specs.declared.openings.Block.{Block}
use Rattle.est_parse.specs.Openings.{kind_of, opening, is_deep}
use Rattle.est_parse.specs.Parts.{stmt_list, part_of, handler_of, renames_of, Tail, CaseTail, DelayTail, await_of, abort_of, Choice, CaseChoice, TestChoice}
use Rattle.est_parse.specs.Parts.{present_of, loop_of, repeat_of, Head, EveryHead, RepeatHead, WeakHead, TrapHead, SignalHead}
use Rattle.est_parse.specs.Reading.{list_step, listed, ends, delay, test, head, closing, blocked, expr, Rules, part, do_part, case_behind, case_step, case_list}
use Rattle.est_parse.specs.Reading.{tail, choice, loop_tail, repeat_parts, handler, rename, renames, item_behind, form, item, line_step, line, whole_step}
use Rattle.est_parse.specs.Reading.{whole, rules, inside, statement}
use Rattle.est_parse.proofs.TokenKinds.{word_class, mark_class, class, word-test, mark-test, number-test, factor_set, opening_set, opening-test}
use Rattle.est_parse.proofs.TokenKinds.{kind_test, opened-kind, kind-opens}
use Rattle.est_parse.proofs.Lists.{name-reads, ends_shape, ends-reads, listed-reads, list-advances}
use Rattle.est_parse.proofs.ExprLaws.{expr_shape, event_shape, delay_shape, exprs_alone, exprs_known, event_known}
use Rattle.est_parse.proofs.ExprLaws.{delay-reads, count-reads, test-reads}

-- what must not stand behind an item, and behind a list of items
abbrev pub item_after : List ℕ
item_after = mark_class marks.LeftBracket ∷ word_class words.Do ∷ word_class words.Await ∷ word_class words.Present ∷ word_class words.Loop ∷
    word_class words.Every ∷ word_class words.Repeat ∷ word_class words.Abort ∷ word_class words.Trap ∷ word_class words.Signal ∷ []

abbrev item_shape : Shape
item_shape = record { starts = opening_set; empty = false; after = item_after }

abbrev line_shape : Shape
line_shape = record { starts = opening_set; empty = false; after = mark_class marks.Semicolon ∷ opening_set ++ item_after }

abbrev pub whole_shape : Shape
whole_shape = record { starts = opening_set; empty = false; after = mark_class marks.DoubleBar ∷ mark_class marks.Semicolon ∷ opening_set ++ item_after }

-- all that a statement is made of, at a room
pub record Known (room : Option ℕ) : Type 0 where
  pub expr : Reads class (λ n. (rules n).expr) (SpellsExpr Disjunction) expr_nesting expr_shape room
  pub event : Reads class (λ n. (rules n).event) SpellsEvent expr_nesting event_shape room
  pub whole : Reads class (λ n. (rules n).whole) (Spells Whole) nesting whole_shape room

-- Parts that may be left out.

part_to : (w : Reserved) (o : Option Stmt) (tokens : List Token) → Parted (word w) (λ _. Spells Whole) Empty o tokens → SpellsPart w (part_of o) tokens
part_to w None tokens member = member
part_to w (Some p) tokens member = member

part_from : (w : Reserved) (v : Part) (tokens : List Token) → SpellsPart w v tokens → Made part_of (Parted (word w) (λ _. Spells Whole) Empty) v tokens
part_from w Missing tokens member = (None, refl, member)
part_from w (Written p) tokens member = (Some p, refl, member)

part_depth : (o : Option Stmt) → part_nesting (part_of o) ≡ step_depth nesting o
part_depth None = refl
part_depth (Some p) = refl

abbrev DoBody : Reserved → Stmt → List Token → Type 0
DoBody w p = Then (Spells Whole p) (Ends w)

do_to : (w : Reserved) (o : Option Stmt) (tokens : List Token) → Parted (word words.Do) (λ _. DoBody w) Empty o tokens → SpellsDo w (part_of o) tokens
do_to w None tokens member = member
do_to w (Some p) tokens member = member

do_from : (w : Reserved) (v : Part) (tokens : List Token) → SpellsDo w v tokens → Made part_of (Parted (word words.Do) (λ _. DoBody w) Empty) v tokens
do_from w Missing tokens member = (None, refl, member)
do_from w (Written p) tokens member = (Some p, refl, member)

abbrev Handling : Name × Stmt → List Token → Type 0
Handling = Both (One name) (λ p. Led (word words.Do) (λ _. Spells Whole p))

handler_to : (o : Option (Name × Stmt)) (tokens : List Token) → Parted (word words.Handle) (λ _. Handling) Empty o tokens → SpellsHandler (handler_of o) tokens
handler_to None tokens member = member
handler_to (Some found) tokens member = member

handler_from : (v : Handler) (tokens : List Token) → SpellsHandler v tokens → Made handler_of (Parted (word words.Handle) (λ _. Handling) Empty) v tokens
handler_from NoHandler tokens member = (None, refl, member)
handler_from (Handled n p) tokens member = (Some (n, p), refl, member)

handler_depth : (o : Option (Name × Stmt)) → handler_nesting (handler_of o) ≡ step_depth (λ found. max 0 (nesting found.1)) o
handler_depth None = refl
handler_depth (Some found) = omega arith

-- Cases.

abbrev Case : Expr × Part → List Token → Type 0
Case = Both (SpellsExpr Disjunction) (SpellsPart words.Do)

abbrev OtherCase : Option (Expr × Part) → List Token → Type 0
OtherCase = Parted (word words.Case) (λ _. Case) Empty

abbrev FirstCase : Expr × Part → List Token → Type 0
FirstCase v = Led (word words.Case) (λ _. Case v)

abbrev case_depth : Expr × Part → ℕ
case_depth v = max (expr_nesting v.0) (part_nesting v.1)

other_cases_to : (others : List (Expr × Part)) (tokens : List Token) → Loop OtherCase others tokens → SpellsOtherCases (cases others) tokens
other_cases_to [] tokens member = member
other_cases_to (c ∷ others) tokens member = record {
  front = member.front;
  back = member.back;
  cut = member.cut;
  first = member.first;
  second = other_cases_to others member.back member.second;
}

abbrev cases_of : Cases → List (Expr × Part)
cases_of NoCases = []
cases_of (MoreCases event body others) = (event, body) ∷ cases_of others

cases-of : (others : Cases) → cases (cases_of others) ≡ others
cases-of NoCases = refl
cases-of (MoreCases event body others) = ap (MoreCases event body) (cases-of others)

other_cases_from : (others : Cases) (tokens : List Token) → SpellsOtherCases others tokens → Loop OtherCase (cases_of others) tokens
other_cases_from NoCases tokens member = member
other_cases_from (MoreCases event body others) tokens member = record {
  front = member.front;
  back = member.back;
  cut = member.cut;
  first = member.first;
  second = other_cases_from others member.back member.second;
}

cases_to : (found : (Expr × Part) × List (Expr × Part)) (tokens : List Token) → Both FirstCase (Loop OtherCase) found tokens →
    SpellsCases (cases (found.0 ∷ found.1)) tokens
cases_to found tokens member = record {
  front = member.front;
  back = member.back;
  cut = member.cut;
  first = member.first;
  second = other_cases_to found.1 member.back member.second;
}

cases_from : (v : Cases) (tokens : List Token) → SpellsCases v tokens →
    Made {A = (Expr × Part) × List (Expr × Part)} (λ found. cases (found.0 ∷ found.1)) (Both FirstCase (Loop OtherCase)) v tokens
cases_from NoCases tokens member = absurd member
cases_from (MoreCases event body others) tokens member = (
  ((event, body), cases_of others),
  ap (MoreCases event body) (cases-of others),
  record { front = member.front; back = member.back; cut = member.cut; first = member.first; second = other_cases_from others member.back member.second },
)

cases_depth : (others : List (Expr × Part)) → cases_nesting (cases others) ≡ list_depth case_depth others
cases_depth [] = refl
cases_depth (c ∷ others) = ap (max (case_depth c)) (cases_depth others)

-- Tails.

abbrev tail_nesting : Tail → ℕ
tail_nesting (CaseTail found) = cases_nesting found
tail_nesting (DelayTail d q) = max (delay_nesting d) (part_nesting q)

abbrev CaseTailed : Reserved → Cases → List Token → Type 0
CaseTailed w found = Then (SpellsCases found) (Ends w)

abbrev DelayTailed : Reserved → Delay × Part → List Token → Type 0
DelayTailed w = Both SpellsDelay (SpellsDo w)

abbrev Tailed : Reserved → Tail → List Token → Type 0
Tailed w (CaseTail found) = CaseTailed w found
Tailed w (DelayTail d q) = DelayTailed w (d, q)

abbrev EitherTail : Reserved → Tail → List Token → Type 0
EitherTail w v tokens = Made CaseTail (CaseTailed w) v tokens ⊎ Made {A = Delay × Part} (λ found. DelayTail found.0 found.1) (DelayTailed w) v tokens

tail_to : (w : Reserved) (v : Tail) (tokens : List Token) → EitherTail w v tokens → Tailed w v tokens
tail_to w v tokens (inl made) = subst (λ v. Tailed w v tokens) made.1 made.2
tail_to w v tokens (inr made) = subst (λ v. Tailed w v tokens) made.1 made.2

tail_from : (w : Reserved) (v : Tail) (tokens : List Token) → Tailed w v tokens → EitherTail w v tokens
tail_from w (CaseTail found) tokens member = inl (found, refl, member)
tail_from w (DelayTail d q) tokens member = inr ((d, q), refl, member)

abbrev choice_nesting : Choice → ℕ
choice_nesting (CaseChoice found q) = max (cases_nesting found) (part_nesting q)
choice_nesting (TestChoice e p q) = max (expr_nesting e) (max (part_nesting p) (part_nesting q))

abbrev ElseEnd : Part → List Token → Type 0
ElseEnd q = Then (SpellsPart words.Else q) (Ends words.Present)

abbrev CaseChosen : Cases × Part → List Token → Type 0
CaseChosen = Both SpellsCases ElseEnd

abbrev TestChosen : Expr × (Part × Part) → List Token → Type 0
TestChosen = Both (SpellsExpr Disjunction) (Both (SpellsPart words.Then) ElseEnd)

abbrev Chosen : Choice → List Token → Type 0
Chosen (CaseChoice found q) = CaseChosen (found, q)
Chosen (TestChoice e p q) = TestChosen (e, (p, q))

abbrev EitherChoice : Choice → List Token → Type 0
EitherChoice v tokens =
    Made {A = Cases × Part} (λ found. CaseChoice found.0 found.1) CaseChosen v tokens
    ⊎ Made {A = Expr × (Part × Part)} (λ found. TestChoice found.0 found.1.0 found.1.1) TestChosen v tokens

choice_to : (v : Choice) (tokens : List Token) → EitherChoice v tokens → Chosen v tokens
choice_to v tokens (inl made) = subst (λ v. Chosen v tokens) made.1 made.2
choice_to v tokens (inr made) = subst (λ v. Chosen v tokens) made.1 made.2

choice_from : (v : Choice) (tokens : List Token) → Chosen v tokens → EitherChoice v tokens
choice_from (CaseChoice found q) tokens member = inl ((found, q), refl, member)
choice_from (TestChoice e p q) tokens member = inr ((e, (p, q)), refl, member)

renames_to : (o : Option (List Rename)) (tokens : List Token) →
    Parted (mark marks.LeftBracket) (λ _ v. Led (word words.Signal) (λ _. Then (Listed (mark marks.Comma) SpellsRename v) (One (mark marks.RightBracket) tt)))
    Empty o tokens → SpellsRenames (renames_of o) tokens
renames_to None tokens member = member
renames_to (Some []) tokens member = absurd member.behind.behind.first
renames_to (Some (r ∷ others)) tokens member = member

renames_from : (v : List Rename) (tokens : List Token) → SpellsRenames v tokens →
    Made renames_of (Parted (mark marks.LeftBracket) (λ _ v. Led (word words.Signal)
    (λ _. Then (Listed (mark marks.Comma) SpellsRename v) (One (mark marks.RightBracket) tt))) Empty) v tokens
renames_from [] tokens member = (None, refl, member)
renames_from (r ∷ others) tokens member = (Some (r ∷ others), refl, member)

-- The judgements on parts of items.

abbrev rename_shape : Shape
rename_shape = one_shape (60 ∷ [])

rename-reads : {room : Option ℕ} → Reads class (λ _. rename) SpellsRename (λ _. 0) rename_shape room
rename-reads =
    made-reads (λ found. record { actual = found.0; formal = found.1 }) SpellsRename (λ _. 0)
    (both-reads name-reads (led-reads (mark-test marks.Slash) name-reads) refl)
    (λ _. refl) (λ found tokens member. member) (λ v tokens member. ((v.actual, v.formal), refl, member))

abbrev renames_shape : Shape
renames_shape = record { starts = mark_class marks.LeftBracket ∷ []; empty = true; after = mark_class marks.LeftBracket ∷ [] }

renames-reads : {room : Option ℕ} → Reads class (λ _. renames) SpellsRenames (λ _. 0) renames_shape room
renames-reads =
    shape-reads renames_shape (made-reads renames_of SpellsRenames (λ _. 0)
    (step-reads (or-steps (mark-test marks.LeftBracket) (led-reads (word-test words.Signal)
    (trail-reads (listed-reads marks.Comma rename-reads refl) (the-reads (mark-test marks.RightBracket)) refl)) give-reads refl))
    flat renames_to renames_from) refl refl refl
  where
    flat : (o : Option (List Rename)) → 0 ≡ step_depth (list_depth (λ _. 0)) o
    flat None = refl
    flat (Some v) = sym (list_depth-flat v)

abbrev cases_shape : Shape
cases_shape = record {
  starts = word_class words.Case ∷ [];
  empty = false;
  after = word_class words.Case ∷ word_class words.Do ∷ word_class words.And ∷ word_class words.Or ∷ whole_shape.after;
}

abbrev else_shape : Shape
else_shape = record { starts = word_class words.Else ∷ word_class words.End ∷ []; empty = false; after = word_class words.Present ∷ [] }

abbrev choice_shape : Shape
choice_shape = record { starts = word_class words.Case ∷ factor_set; empty = false; after = word_class words.Present ∷ [] }

abbrev handler_shape : Shape
handler_shape = record { starts = word_class words.Handle ∷ []; empty = true; after = word_class words.Handle ∷ whole_shape.after }

abbrev loop_tail_shape : Shape
loop_tail_shape = record { starts = word_class words.Each ∷ word_class words.End ∷ []; empty = false; after = word_class words.Loop ∷ [] }

abbrev repeat_shape : Shape
repeat_shape = record { starts = 61 ∷ []; empty = false; after = word_class words.Repeat ∷ [] }

abbrev Repeated : (ℕ × Span) × Stmt → List Token → Type 0
Repeated = Both (One number) (λ p. Led (word words.Times) (λ _. DoBody words.Repeat p))

-- where all at the room is known
module _ (r : ℕ → Rules) (room : Option ℕ) (k : Reads class (λ n. (r n).expr) (SpellsExpr Disjunction) expr_nesting expr_shape room)
    (j : Reads class (λ n. (r n).event) SpellsEvent expr_nesting event_shape room)
    (h : Reads class (λ n. (r n).whole) (Spells Whole) nesting whole_shape room) where
  part-reads : (w : Reserved) → Reads class (λ n. part w (r n).whole) (SpellsPart w) part_nesting
      (step_shape (or_turn (word_class w ∷ []) whole_shape no_shape)) room
  part-reads w = made-reads part_of (SpellsPart w) part_nesting (step-reads (or-steps (word-test w) h give-reads refl)) part_depth (part_to w) (part_from w)

  do-reads : (w : Reserved) → Reads class (λ n. do_part w (r n).whole) (SpellsDo w) part_nesting
      (step_shape (or_turn (word_class words.Do ∷ []) (then_shape whole_shape (ends_shape w)) no_shape)) room
  do-reads w =
      made-reads part_of (SpellsDo w) part_nesting (step-reads (or-steps (word-test words.Do) (trail-reads h (ends-reads w) refl) give-reads refl)) part_depth
      (do_to w) (do_from w)

  case-reads : Reads class (λ n. case_behind (r n)) Case case_depth
      (then_shape expr_shape (step_shape (or_turn (word_class words.Do ∷ []) whole_shape no_shape))) room
  case-reads = both-reads k (part-reads words.Do) refl

  case-steps : Steps class (λ n. case_step (r n)) OtherCase case_depth
      (or_turn (word_class words.Case ∷ []) (then_shape expr_shape (step_shape (or_turn (word_class words.Do ∷ []) whole_shape no_shape))) no_shape) room
  case-steps = or-steps (word-test words.Case) case-reads give-reads refl

  cases-reads : Reads class (λ n. case_list (r n)) SpellsCases cases_nesting cases_shape room
  cases-reads =
      shape-reads cases_shape (made-reads (λ found. cases (found.0 ∷ found.1)) SpellsCases cases_nesting
      (both-reads (led-reads (word-test words.Case) case-reads) (loop-reads case-steps refl) refl)
      (λ found. cases_depth (found.0 ∷ found.1)) cases_to cases_from) refl refl refl

  tail-reads : (w : Reserved) → Reads class (λ n. tail w (r n)) (Tailed w) tail_nesting
      (either_shape (then_shape cases_shape (ends_shape w)) (then_shape delay_shape
      (step_shape (or_turn (word_class words.Do ∷ []) (then_shape whole_shape (ends_shape w)) no_shape)))) room
  tail-reads w =
      told-reads (Tailed w) (ahead-reads (word-test words.Case) (mapped-reads CaseTail tail_nesting (trail-reads cases-reads (ends-reads w) refl) (λ _. refl))
      (mapped-reads (λ found. DelayTail found.0 found.1) tail_nesting (both-reads (delay-reads j) (do-reads w) refl) (λ _. refl)) refl refl refl refl)
      (tail_to w) (tail_from w)

  else-reads : Reads class (λ n. trail (part words.Else (r n).whole) (ends words.Present)) ElseEnd part_nesting else_shape room
  else-reads = shape-reads else_shape (trail-reads (part-reads words.Else) (ends-reads words.Present) refl) refl refl refl

  choice-reads : Reads class (λ n. choice (r n)) Chosen choice_nesting choice_shape room
  choice-reads =
      shape-reads choice_shape (told-reads Chosen (ahead-reads (word-test words.Case)
      (mapped-reads (λ found. CaseChoice found.0 found.1) choice_nesting (both-reads cases-reads else-reads refl) (λ _. refl))
      (mapped-reads (λ found. TestChoice found.0 found.1.0 found.1.1) choice_nesting (both-reads k (both-reads (part-reads words.Then) else-reads refl) refl)
      (λ _. refl))
      refl refl refl refl) choice_to choice_from) refl refl refl

  handler-reads : Reads class (λ n. handler (r n)) SpellsHandler handler_nesting handler_shape room
  handler-reads =
      shape-reads handler_shape (made-reads handler_of SpellsHandler handler_nesting
      (step-reads (or-steps (word-test words.Handle) (both-reads name-reads (led-reads (word-test words.Do) h) refl) give-reads refl)) handler_depth handler_to
      handler_from) refl refl refl

  loop-tail-reads : Reads class (λ n. loop_tail (r n)) (Parted (word words.Each) (λ _. SpellsCount) (Ends words.Loop))
      (step_depth delay_nesting) loop_tail_shape room
  loop-tail-reads = shape-reads loop_tail_shape (step-reads (or-steps (word-test words.Each) (count-reads j) (ends-reads words.Loop) refl)) refl refl refl

  body-reads : (w : Reserved) → Reads class (λ n. trail (r n).whole (ends w)) (DoBody w) nesting (then_shape whole_shape (ends_shape w)) room
  body-reads w = trail-reads h (ends-reads w) refl

  repeat-reads : Reads class (λ n. repeat_parts (r n)) Repeated (λ found. max 0 (nesting found.1)) repeat_shape room
  repeat-reads = both-reads (the-reads number-test) (led-reads (word-test words.Times) (body-reads words.Repeat)) refl

-- Items.

abbrev Behind : Opening → Form → List Token → Type 0
Behind (openings.Flat flats.Nothing) = Only Nothing
Behind (openings.Flat flats.Pause) = Only Pause
Behind (openings.Flat flats.Halt) = Only Halt
Behind (openings.Flat flats.Emit) = Made Emit (One name)
Behind (openings.Flat flats.Sustain) = Made Sustain (One name)
Behind (openings.Flat flats.Exit) = Made Exit (One name)
Behind (openings.Flat flats.Run) = Made {A = Name × List Rename} (λ found. Run found.0 found.1) (Both (One name) SpellsRenames)
Behind (openings.Block blocks.Group) = Made Group (λ p. Then (Spells Whole p) (One (mark marks.RightBracket) tt))
Behind openings.Await = Made await_of (Tailed words.Await)
Behind openings.Present = Made present_of Chosen
Behind (openings.Block blocks.Loop) = Made loop_of (Both (Spells Whole) (Parted (word words.Each) (λ _. SpellsCount) (Ends words.Loop)))
Behind (openings.Block blocks.Every) = Made {A = Delay × Stmt} (λ found. Every found.0 found.1)
    (Both SpellsDelay (λ p. Led (word words.Do) (λ _. DoBody words.Every p)))
Behind (openings.Block blocks.Repeat) = Made repeat_of Repeated
Behind (openings.Block blocks.Positive) = Made repeat_of (λ found. Led (word words.Repeat) (λ _. Repeated found))
Behind (openings.Block blocks.Abort) = Made abort_of (Both (Spells Whole) (λ t. Led (word words.When) (λ _. Tailed words.Abort t)))
Behind (openings.Block blocks.Weak) =
    Made {A = Stmt × Delay} (λ found. WeakAbort found.0 found.1)
    (λ found. Led (word words.Abort) (λ _. Both (Spells Whole) (λ d. Led (word words.When) (λ _. SpellsDelay d)) found))
Behind (openings.Block blocks.Suspend) =
    Made {A = Stmt × Delay} (λ found. Suspend found.0 found.1) (Both (Spells Whole) (λ d. Led (word words.When) (λ _. SpellsTest d)))
Behind (openings.Block blocks.Trap) =
    Made {A = Name × (Stmt × Handler)} (λ found. Trap found.0 found.1.0 found.1.1)
    (Both (One name) (λ found. Led (word words.In) (λ _. Both (Spells Whole) (λ h. Then (SpellsHandler h) (Ends words.Trap)) found)))
Behind (openings.Block blocks.Signal) =
    Made {A = List Name × Stmt} (λ found. Signal found.0 found.1)
    (Both (Listed (mark marks.Comma) (One name)) (λ p. Led (word words.In) (λ _. DoBody words.Signal p)))

-- a token with nothing behind it, and one with something
alone : {test : Token → Option (Unit {0})} (token : Token) (rest : List Token) → test token ≡ Some tt → Empty rest → One test tt (token ∷ rest)
alone token rest takes none = record { token = token; only = ap (λ r. token ∷ r) none; passes = takes }

leads : {test : Token → Option (Unit {0})} {M : List Token → Type 0} (token : Token) (rest : List Token) → test token ≡ Some tt → M rest →
    Led test (λ _. M) (token ∷ rest)
leads token rest takes member = record { token = token; value = tt; rest = rest; cut = refl; passes = takes; behind = member }

module _ (token : Token) (rest : List Token) where
  await-item : (t : Tail) → word words.Await token ≡ Some tt → Tailed words.Await t rest → SpellsItem (await_of t) (token ∷ rest)
  await-item (CaseTail found) takes member = leads token rest takes member
  await-item (DelayTail d q) takes member = leads token rest takes member

  present-item : (t : Choice) → word words.Present token ≡ Some tt → Chosen t rest → SpellsItem (present_of t) (token ∷ rest)
  present-item (CaseChoice found q) takes member = leads token rest takes member
  present-item (TestChoice e p q) takes member = leads token rest takes member

  loop-item : (t : Stmt × Option Delay) → word words.Loop token ≡ Some tt →
      Both (Spells Whole) (Parted (word words.Each) (λ _. SpellsCount) (Ends words.Loop)) t rest → SpellsItem (loop_of t) (token ∷ rest)
  loop-item (p, None) takes member = leads token rest takes member
  loop-item (p, Some d) takes member = leads token rest takes member

  abort-item : (t : Stmt × Tail) → word words.Abort token ≡ Some tt → Both (Spells Whole) (λ t. Led (word words.When) (λ _. Tailed words.Abort t)) t rest →
      SpellsItem (abort_of t) (token ∷ rest)
  abort-item (p, CaseTail found) takes member = leads token rest takes member
  abort-item (p, DelayTail d q) takes member = leads token rest takes member

  behind-item : (o : Opening) (v : Form) → kind_test (kind_of o) token ≡ Some tt → Behind o v rest → SpellsItem v (token ∷ rest)
  behind-item (openings.Flat flats.Nothing) v takes made = subst (λ v. SpellsItem v (token ∷ rest)) made.1 (alone token rest takes made.2)
  behind-item (openings.Flat flats.Pause) v takes made = subst (λ v. SpellsItem v (token ∷ rest)) made.1 (alone token rest takes made.2)
  behind-item (openings.Flat flats.Halt) v takes made = subst (λ v. SpellsItem v (token ∷ rest)) made.1 (alone token rest takes made.2)
  behind-item openings.Await v takes made = subst (λ v. SpellsItem v (token ∷ rest)) made.1 (await-item made.0 takes made.2)
  behind-item openings.Present v takes made = subst (λ v. SpellsItem v (token ∷ rest)) made.1 (present-item made.0 takes made.2)
  behind-item (openings.Block blocks.Loop) v takes made = subst (λ v. SpellsItem v (token ∷ rest)) made.1 (loop-item made.0 takes made.2)
  behind-item (openings.Block blocks.Abort) v takes made = subst (λ v. SpellsItem v (token ∷ rest)) made.1 (abort-item made.0 takes made.2)
  behind-item (openings.Block blocks.Repeat) v takes made =
      subst (λ v. SpellsItem v (token ∷ rest)) made.1 (record {
        front = [];
        back = token ∷ rest;
        cut = refl;
        first = inl refl;
        second = leads token rest takes made.2;
      })
  behind-item (openings.Block blocks.Positive) v takes made =
      subst (λ v. SpellsItem v (token ∷ rest)) made.1 (record {
        front = token ∷ [];
        back = rest;
        cut = refl;
        first = inr (alone token [] takes refl);
        second = made.2;
      })
  behind-item (openings.Flat flats.Emit) v takes made = subst (λ v. SpellsItem v (token ∷ rest)) made.1 (leads token rest takes made.2)
  behind-item (openings.Flat flats.Sustain) v takes made = subst (λ v. SpellsItem v (token ∷ rest)) made.1 (leads token rest takes made.2)
  behind-item (openings.Flat flats.Exit) v takes made = subst (λ v. SpellsItem v (token ∷ rest)) made.1 (leads token rest takes made.2)
  behind-item (openings.Flat flats.Run) v takes made = subst (λ v. SpellsItem v (token ∷ rest)) made.1 (leads token rest takes made.2)
  behind-item (openings.Block blocks.Group) v takes made = subst (λ v. SpellsItem v (token ∷ rest)) made.1 (leads token rest takes made.2)
  behind-item (openings.Block blocks.Every) v takes made = subst (λ v. SpellsItem v (token ∷ rest)) made.1 (leads token rest takes made.2)
  behind-item (openings.Block blocks.Weak) v takes made = subst (λ v. SpellsItem v (token ∷ rest)) made.1 (leads token rest takes made.2)
  behind-item (openings.Block blocks.Suspend) v takes made = subst (λ v. SpellsItem v (token ∷ rest)) made.1 (leads token rest takes made.2)
  behind-item (openings.Block blocks.Trap) v takes made = subst (λ v. SpellsItem v (token ∷ rest)) made.1 (leads token rest takes made.2)
  behind-item (openings.Block blocks.Signal) v takes made = subst (λ v. SpellsItem v (token ∷ rest)) made.1 (leads token rest takes made.2)

form_to : (v : Form) (tokens : List Token) → Led opening (λ o. Behind o v) tokens → SpellsItem v tokens
form_to v tokens led = subst (λ ts. SpellsItem v ts) (sym led.cut)
    (behind-item led.token led.rest led.value v (opened-kind led.value led.token led.passes) led.behind)

opens : (o : Opening) (v : Form) (tokens : List Token) {M : List Token → Type 0} → (led : Led (kind_test (kind_of o)) (λ _. M) tokens) → Behind o v led.rest →
    Led opening (λ o. Behind o v) tokens
opens o v tokens led behind = record {
  token = led.token;
  value = o;
  rest = led.rest;
  cut = led.cut;
  passes = kind-opens o led.token led.passes;
  behind = behind;
}

opens_alone : (o : Opening) (v : Form) (tokens : List Token) → One (kind_test (kind_of o)) tt tokens → Behind o v [] → Led opening (λ o. Behind o v) tokens
opens_alone o v tokens one behind = record {
  token = one.token;
  value = o;
  rest = [];
  cut = one.only;
  passes = kind-opens o one.token one.passes;
  behind = behind;
}

form_from : (v : Form) (tokens : List Token) → SpellsItem v tokens → Led opening (λ o. Behind o v) tokens
form_from Nothing tokens one = opens_alone (openings.Flat flats.Nothing) Nothing tokens one (tt, refl, refl)
form_from Pause tokens one = opens_alone (openings.Flat flats.Pause) Pause tokens one (tt, refl, refl)
form_from Halt tokens one = opens_alone (openings.Flat flats.Halt) Halt tokens one (tt, refl, refl)
form_from (Emit n) tokens led = opens (openings.Flat flats.Emit) (Emit n) tokens led (n, refl, led.behind)
form_from (Sustain n) tokens led = opens (openings.Flat flats.Sustain) (Sustain n) tokens led (n, refl, led.behind)
form_from (Exit n) tokens led = opens (openings.Flat flats.Exit) (Exit n) tokens led (n, refl, led.behind)
form_from (Run n rs) tokens led = opens (openings.Flat flats.Run) (Run n rs) tokens led ((n, rs), refl, led.behind)
form_from (Group p) tokens led = opens (openings.Block blocks.Group) (Group p) tokens led (p, refl, led.behind)
form_from (Await d q) tokens led = opens openings.Await (Await d q) tokens led (DelayTail d q, refl, led.behind)
form_from (AwaitCase found) tokens led = opens openings.Await (AwaitCase found) tokens led (CaseTail found, refl, led.behind)
form_from (Present e p q) tokens led = opens openings.Present (Present e p q) tokens led (TestChoice e p q, refl, led.behind)
form_from (PresentCase found q) tokens led = opens openings.Present (PresentCase found q) tokens led (CaseChoice found q, refl, led.behind)
form_from (LoopForm p) tokens led = opens (openings.Block blocks.Loop) (LoopForm p) tokens led ((p, None), refl, led.behind)
form_from (LoopEach p d) tokens led = opens (openings.Block blocks.Loop) (LoopEach p d) tokens led ((p, Some d), refl, led.behind)
form_from (Every d p) tokens led = opens (openings.Block blocks.Every) (Every d p) tokens led ((d, p), refl, led.behind)
form_from (Repeat n span p) tokens member = go member.first
  where
    go : Maybe (word words.Positive) member.front → Led opening (λ o. Behind o (Repeat n span p)) tokens
    go (inl none) =
        let led = member.second in record {
          token = led.token;
          value = (openings.Block blocks.Repeat);
          rest = led.rest;
          cut = member.cut ∙ ap (λ f. f ++ member.back) none ∙ led.cut;
          passes = kind-opens (openings.Block blocks.Repeat) led.token led.passes;
          behind = (((n, span), p), refl, led.behind);
        }
    go (inr one) = record {
      token = one.token;
      value = (openings.Block blocks.Positive);
      rest = member.back;
      cut = member.cut ∙ ap (λ f. f ++ member.back) one.only;
      passes = kind-opens (openings.Block blocks.Positive) one.token one.passes;
      behind = (((n, span), p), refl, member.second);
    }
form_from (Abort p d q) tokens led = opens (openings.Block blocks.Abort) (Abort p d q) tokens led ((p, DelayTail d q), refl, led.behind)
form_from (AbortCase p found) tokens led = opens (openings.Block blocks.Abort) (AbortCase p found) tokens led ((p, CaseTail found), refl, led.behind)
form_from (WeakAbort p d) tokens led = opens (openings.Block blocks.Weak) (WeakAbort p d) tokens led ((p, d), refl, led.behind)
form_from (Suspend p d) tokens led = opens (openings.Block blocks.Suspend) (Suspend p d) tokens led ((p, d), refl, led.behind)
form_from (Trap n p h) tokens led = opens (openings.Block blocks.Trap) (Trap n p h) tokens led ((n, (p, h)), refl, led.behind)
form_from (Signal names p) tokens led = opens (openings.Block blocks.Signal) (Signal names p) tokens led ((names, p), refl, led.behind)
form_from (Seq parts) tokens member = absurd member
form_from (Par parts) tokens member = absurd member

-- The reading function goes on from head to statement to closing; as one rule of its parts it reads the same.

mapped-trail : {A B : Type 0} (f : A → B) (p : Rule Token A) (q : Rule Token (Unit {0})) (tokens : List Token) →
    mapped f (trail p q) tokens ≡ follow (p tokens) (λ v. mapped (λ _. f v) q)
mapped-trail {A} {B} f p q tokens = outer (p tokens)
  where
    inner : (v : A) (r : Read Token (Unit {0})) → follow (follow {B = A} r (λ _. give v)) (λ w. give (f w)) ≡ follow r (λ _. give (f v))
    inner v (Ok found) = refl
    inner v (Err fault) = refl

    outer : (r : Read Token A) → follow (follow r (λ v. mapped (λ _. v) q)) (λ w. give (f w)) ≡ follow r (λ v. mapped (λ _. f v) q)
    outer (Ok found) = inner found.0 (q found.1)
    outer (Err fault) = refl

mapped-both : {A B C : Type 0} (f : A × B → C) (p : Rule Token A) (q : Rule Token B) (tokens : List Token) →
    mapped f (both p q) tokens ≡ follow (p tokens) (λ v. mapped (λ w. f (v, w)) q)
mapped-both {A} {B} {C} f p q tokens = outer (p tokens)
  where
    inner : (v : A) (r : Read Token B) → follow {B = C} (follow {B = A × B} r (λ w. give (v, w))) (λ found. give (f found)) ≡ follow r (λ w. give (f (v, w)))
    inner v (Ok found) = refl
    inner v (Err fault) = refl

    outer : (r : Read Token A) → follow {B = C} (follow {B = A × B} r (λ v. mapped (λ w. (v, w)) q)) (λ found. give (f found)) ≡
        follow r (λ v. mapped (λ w. f (v, w)) q)
    outer (Ok found) = inner found.0 (q found.1)
    outer (Err fault) = refl

abbrev block_behind : Block → Rules → Rule Token Form
block_behind blocks.Group r = mapped Group (trail r.whole (the (mark marks.RightBracket)))
block_behind blocks.Loop r = mapped loop_of (both r.whole (loop_tail r))
block_behind blocks.Every r = mapped (λ found. Every found.0 found.1) (both (delay r.event) (on (word words.Do) (λ _. trail r.whole (ends words.Every))))
block_behind blocks.Repeat r = mapped repeat_of (repeat_parts r)
block_behind blocks.Positive r = mapped repeat_of (on (word words.Repeat) (λ _. repeat_parts r))
block_behind blocks.Abort r = mapped abort_of (both r.whole (on (word words.When) (λ _. tail words.Abort r)))
block_behind blocks.Weak r =
    mapped (λ found. WeakAbort found.0 found.1) (on (word words.Abort) (λ _. both r.whole (on (word words.When) (λ _. delay r.event))))
block_behind blocks.Suspend r = mapped (λ found. Suspend found.0 found.1) (both r.whole (on (word words.When) (λ _. test r.event)))
block_behind blocks.Trap r =
    mapped (λ found. Trap found.0 found.1.0 found.1.1)
    (both (the name) (on (word words.In) (λ _. both r.whole (trail (handler r) (ends words.Trap)))))
block_behind blocks.Signal r =
    mapped (λ found. Signal found.0 found.1) (both (listed marks.Comma (the name)) (on (word words.In) (λ _. trail r.whole (ends words.Signal))))

-- a head that ends with a word
head-word : {A X : Type 0} (w : Reserved) (h : A → Head) (p : Rule Token A) (f : A × X → Form) (r : Rules) (s : Rule Token X) (tokens : List Token) →
    ((v : A) (rest : List Token) → follow (r.whole rest) (closing r (h v)) ≡ mapped (λ x. f (v, x)) s rest) →
    blocked r (mapped h (trail p (the (word w)))) tokens ≡ mapped f (both p (on (word w) (λ _. s))) tokens
head-word {A} {X} w h p f r s tokens same =
    ap (λ x. follow x (λ h rest. follow (r.whole rest) (closing r h))) (mapped-trail h p (the (word w)) tokens) ∙ outer (p tokens)
    ∙ sym (mapped-both f p (on (word w) (λ _. s)) tokens)
  where
    inner : (v : A) (t : List Token) (o : Option (Unit {0} × List Token)) →
        follow (follow (option_map_or {T = Unit {0} × List Token} (λ found. give found.0 found.1) o (refuse t)) (λ _. give (h v)))
        (λ h rest. follow (r.whole rest) (closing r h))
        ≡ follow (option_map_or {T = Unit {0} × List Token} (λ found. s found.1) o (refuse t)) (λ y. give (f (v, y)))
    inner v t None = refl
    inner v t (Some found) = same v found.1

    outer : (x : Read Token A) →
        follow (follow x (λ v. mapped (λ _. h v) (the (word w)))) (λ h rest. follow (r.whole rest) (closing r h)) ≡
        follow x (λ v. mapped (λ y. f (v, y)) (on (word w) (λ _. s)))
    outer (Ok found) = inner found.0 found.1 (picked (word w) found.1)
    outer (Err fault) = refl

-- a head behind a word
word-head : (w : Reserved) (p : Rule Token Head) (r : Rules) {X : Type 0} (f : X → Form) (s : Rule Token X) (tokens : List Token) →
    ((rest : List Token) → blocked r p rest ≡ mapped f s rest) → blocked r (on (word w) (λ _. p)) tokens ≡ mapped f (on (word w) (λ _. s)) tokens
word-head w p r {X} f s tokens same = go (picked (word w) tokens)
  where
    go : (o : Option (Unit {0} × List Token)) →
        follow (option_map_or {T = Unit {0} × List Token} (λ found. p found.1) o (refuse tokens)) (λ h rest. follow (r.whole rest) (closing r h))
        ≡ follow (option_map_or {T = Unit {0} × List Token} (λ found. s found.1) o (refuse tokens)) (λ x. give (f x))
    go None = refl
    go (Some found) = same found.1

repeat-is : (r : Rules) (tokens : List Token) → blocked r (mapped (λ found. RepeatHead found.0 found.1) (trail (the number) (the (word words.Times)))) tokens ≡
    mapped repeat_of (repeat_parts r) tokens
repeat-is r tokens =
    head-word words.Times (λ found. RepeatHead found.0 found.1) (the number) repeat_of r (trail r.whole (ends words.Repeat)) tokens
    (λ v rest. sym (mapped-trail (λ p. Repeat v.0 v.1 p) r.whole (ends words.Repeat) rest))

block-is : (b : Block) (r : Rules) (tokens : List Token) → blocked r (head b r.event) tokens ≡ block_behind b r tokens
block-is blocks.Group r tokens = sym (mapped-trail Group r.whole (the (mark marks.RightBracket)) tokens)
block-is blocks.Loop r tokens = sym (mapped-both loop_of r.whole (loop_tail r) tokens)
block-is blocks.Every r tokens =
    head-word words.Do EveryHead (delay r.event) (λ found. Every found.0 found.1) r (trail r.whole (ends words.Every)) tokens
    (λ v rest. sym (mapped-trail (λ p. Every v p) r.whole (ends words.Every) rest))
block-is blocks.Repeat r tokens = repeat-is r tokens
block-is blocks.Positive r tokens =
    word-head words.Repeat (mapped (λ found. RepeatHead found.0 found.1) (trail (the number) (the (word words.Times)))) r repeat_of (repeat_parts r) tokens
    (repeat-is r)
block-is blocks.Abort r tokens = sym (mapped-both abort_of r.whole (on (word words.When) (λ _. tail words.Abort r)) tokens)
block-is blocks.Weak r tokens =
    word-head words.Abort (give WeakHead) r (λ found. WeakAbort found.0 found.1) (both r.whole (on (word words.When) (λ _. delay r.event))) tokens
    (λ rest. sym (mapped-both (λ found. WeakAbort found.0 found.1) r.whole (on (word words.When) (λ _. delay r.event)) rest))
block-is blocks.Suspend r tokens = sym (mapped-both (λ found. Suspend found.0 found.1) r.whole (on (word words.When) (λ _. test r.event)) tokens)
block-is blocks.Trap r tokens =
    head-word words.In TrapHead (the name) (λ found. Trap found.0 found.1.0 found.1.1) r (both r.whole (trail (handler r) (ends words.Trap))) tokens
    (λ v rest. sym (mapped-both (λ found. Trap v found.0 found.1) r.whole (trail (handler r) (ends words.Trap)) rest))
block-is blocks.Signal r tokens =
    head-word words.In SignalHead (listed marks.Comma (the name)) (λ found. Signal found.0 found.1) r (trail r.whole (ends words.Signal)) tokens
    (λ v rest. sym (mapped-trail (λ p. Signal v p) r.whole (ends words.Signal) rest))

abbrev form_rule : Opening → ℕ → Rule Token Form
form_rule o n = item_behind o (inside n)

nothing-arm : {room : Option ℕ} → Arm class form_nesting false item_after (λ n. form_rule (openings.Flat flats.Nothing) n)
    (Behind (openings.Flat flats.Nothing)) room
nothing-arm = arm (λ _. Nothing) give-reads (λ _. refl) refl

await_depth : (t : Tail) → form_nesting (await_of t) ≡ suc (tail_nesting t)
await_depth (CaseTail found) = refl
await_depth (DelayTail d q) = refl

present_depth : (t : Choice) → form_nesting (present_of t) ≡ suc (choice_nesting t)
present_depth (CaseChoice found q) = refl
present_depth (TestChoice e p q) = refl

loop_depth : (t : Stmt × Option Delay) → form_nesting (loop_of t) ≡ suc (max (nesting t.0) (step_depth delay_nesting t.1))
loop_depth (p, None) = omega arith
loop_depth (p, Some d) = refl

abort_depth : (t : Stmt × Tail) → form_nesting (abort_of t) ≡ suc (max (nesting t.0) (tail_nesting t.1))
abort_depth (p, CaseTail found) = refl
abort_depth (p, DelayTail d q) = refl

pub names_depth : (names : List Name) → list_depth (λ _. 0) names ≡ 0
names_depth [] = refl
names_depth (n ∷ others) = omega (arith, names_depth others)

-- an equal rule
same-arm : {A : Type 0} {D : A → ℕ} {deep : Bool} {after : List ℕ} {p : ℕ → Rule Token A} {L : A → List Token → Type 0} {room : Option ℕ}
    (w : ℕ → Rule Token A) →
    Arm class D deep after p L room → ((n : ℕ) (tokens : List Token) → w n tokens ≡ p n tokens) → Arm class D deep after w L room
same-arm w a same = record { d = a.d; shape = a.shape; reads = same-reads w a.reads same; below = a.below; deepens = a.deepens }

module _ (room : ℕ) (k : Known (fits true room)) where
  block-arms : (b : Block) → Arm class form_nesting true item_after (λ n. block_behind b (inside (suc n))) (Behind (openings.Block b)) (fits true room)
  block-arms blocks.Group = arm Group (trail-reads k.whole (the-reads (mark-test marks.RightBracket)) refl) (λ _. refl) refl
  block-arms blocks.Loop = arm loop_of (both-reads k.whole (loop-tail-reads rules (fits true room) k.expr k.event k.whole) refl) loop_depth refl
  block-arms blocks.Every =
      arm (λ found. Every found.0 found.1) (both-reads (delay-reads k.event)
      (led-reads (word-test words.Do) (body-reads rules (fits true room) k.expr k.event k.whole words.Every)) refl) (λ _. refl) refl
  block-arms blocks.Repeat = arm repeat_of (repeat-reads rules (fits true room) k.expr k.event k.whole) (λ _. omega arith) refl
  block-arms blocks.Positive = arm repeat_of (led-reads (word-test words.Repeat) (repeat-reads rules (fits true room) k.expr k.event k.whole))
      (λ _. omega arith) refl
  block-arms blocks.Abort =
      arm abort_of (both-reads k.whole (led-reads (word-test words.When) (tail-reads rules (fits true room) k.expr k.event k.whole words.Abort)) refl)
      abort_depth refl
  block-arms blocks.Weak =
      arm (λ found. WeakAbort found.0 found.1) (led-reads (word-test words.Abort)
      (both-reads k.whole (led-reads (word-test words.When) (delay-reads k.event)) refl)) (λ _. refl) refl
  block-arms blocks.Suspend = arm (λ found. Suspend found.0 found.1) (both-reads k.whole (led-reads (word-test words.When) (test-reads k.event)) refl)
      (λ _. refl) refl
  block-arms blocks.Trap =
      arm (λ found. Trap found.0 found.1.0 found.1.1)
      (both-reads name-reads (led-reads (word-test words.In) (both-reads k.whole
      (trail-reads (handler-reads rules (fits true room) k.expr k.event k.whole) (ends-reads words.Trap) refl) refl)) refl) (λ _. omega arith) refl
  block-arms blocks.Signal =
      arm (λ found. Signal found.0 found.1)
      (both-reads (listed-reads marks.Comma name-reads refl) (led-reads (word-test words.In)
      (body-reads rules (fits true room) k.expr k.event k.whole words.Signal)) refl)
      (λ found. omega (arith, names_depth found.0)) refl

  form-arms : (o : Opening) → Arm class form_nesting (is_deep o) item_after (λ n. form_rule o (adds (is_deep o) n)) (Behind o) (fits (is_deep o) room)
  form-arms (openings.Flat flats.Nothing) = nothing-arm
  form-arms (openings.Flat flats.Pause) = arm (λ _. Pause) give-reads (λ _. refl) refl
  form-arms (openings.Flat flats.Halt) = arm (λ _. Halt) give-reads (λ _. refl) refl
  form-arms (openings.Flat flats.Emit) = arm Emit name-reads (λ _. refl) refl
  form-arms (openings.Flat flats.Sustain) = arm Sustain name-reads (λ _. refl) refl
  form-arms (openings.Flat flats.Exit) = arm Exit name-reads (λ _. refl) refl
  form-arms (openings.Flat flats.Run) = arm (λ found. Run found.0 found.1) (both-reads name-reads renames-reads refl) (λ _. refl) refl
  form-arms openings.Await = arm await_of (tail-reads rules (fits true room) k.expr k.event k.whole words.Await) await_depth refl
  form-arms openings.Present = arm present_of (choice-reads rules (fits true room) k.expr k.event k.whole) present_depth refl
  form-arms (openings.Block b) = same-arm (λ n. form_rule (openings.Block b) (suc n)) (block-arms b) (λ n tokens. block-is b (inside (suc n)) tokens)

form-lang : Lang class (λ v. Led opening (λ o. Behind o v)) form_nesting item_shape
form-lang = choose-lang Behind opening-test (record { kind = kinds.Reserved words.Nothing; span = record { start = 0; end = 0 } })
    (openings.Flat flats.Nothing) refl (nothing-arm {room = None})

-- Statements with their places.

item-from_form : {room : Option ℕ} → Reads class (λ n. form n (inside n)) (λ v. Led opening (λ o. Behind o v)) form_nesting item_shape room →
    Reads class (λ n. item n (inside n)) (Spells Item) nesting item_shape room
item-from_form k =
    made-reads (λ found. At found.1 found.0) (Spells Item) nesting (placed-reads span_of (told-reads SpellsItem k form_to form_from)) (λ _. refl)
    (λ found tokens member. member) from
  where
    from : (v : Stmt) (tokens : List Token) → Spells Item v tokens → Made {A = Form × Span} (λ found. At found.1 found.0) (Placed span_of SpellsItem) v tokens
    from (At span form) tokens member = ((form, span), refl, member)

abbrev stmts_of : Stmts → List Stmt
stmts_of NoStmts = []
stmts_of (MoreStmts p others) = p ∷ stmts_of others

stmts-of : (others : Stmts) → stmts (stmts_of others) ≡ others
stmts-of NoStmts = refl
stmts-of (MoreStmts p others) = ap (MoreStmts p) (stmts-of others)

stmts_depth : (others : List Stmt) → stmts_nesting (stmts others) ≡ list_depth nesting others
stmts_depth [] = refl
stmts_depth (p ∷ others) = ap (max (nesting p)) (stmts_depth others)

list_depth-is : (node : Stmts → Form) → ((parts : Stmts) → form_nesting (node parts) ≡ stmts_nesting parts) → (found : (Stmt × List Stmt) × Span) →
    nesting (stmt_list node (found.0.0 ∷ found.0.1) found.1) ≡ max (nesting found.0.0) (list_depth nesting found.0.1)
list_depth-is node flat ((p, []), span) = omega arith
list_depth-is node flat ((p, next ∷ others), span) =
    flat (MoreStmts p (MoreStmts next (stmts others))) ∙ ap (λ n. max (nesting p) (max (nesting next) n)) (stmts_depth others)

module _ (m : Mark) (level : Level) (last : List Token → Type 0) where
  abbrev Step : Option Stmt → List Token → Type 0
  Step = Parted (mark m) (λ _. Spells level) last

  others_to : (others : List Stmt) (tokens : List Token) → Loop Step others tokens → SpellsOtherStmts m level last (stmts others) tokens
  others_to [] tokens member = member
  others_to (p ∷ others) tokens member = record {
    front = member.front;
    back = member.back;
    cut = member.cut;
    first = member.first;
    second = others_to others member.back member.second;
  }

  others_from : (others : Stmts) (tokens : List Token) → SpellsOtherStmts m level last others tokens → Loop Step (stmts_of others) tokens
  others_from NoStmts tokens member = member
  others_from (MoreStmts p others) tokens member = record {
    front = member.front;
    back = member.back;
    cut = member.cut;
    first = member.first;
    second = others_from others member.back member.second;
  }

  parts_to : (p next : Stmt) (others : List Stmt) (tokens : List Token) → Both (Spells level) (Loop Step) (p, next ∷ others) tokens →
      SpellsStmts m level last (MoreStmts p (MoreStmts next (stmts others))) tokens
  parts_to p next others tokens member =
      let behind = member.second in record {
        front = member.front;
        back = member.back;
        cut = member.cut;
        first = member.first;
        second = record {
          front = behind.front;
          back = behind.back;
          cut = behind.cut;
          first = behind.first;
          second = others_to others behind.back behind.second;
        };
      }

  parts_from : (p next : Stmt) (others : Stmts) (tokens : List Token) → SpellsStmts m level last (MoreStmts p (MoreStmts next others)) tokens →
      Both (Spells level) (Loop Step) (p, next ∷ stmts_of others) tokens
  parts_from p next others tokens member =
      let behind = member.second in record {
        front = member.front;
        back = member.back;
        cut = member.cut;
        first = member.first;
        second = record {
          front = behind.front;
          back = behind.back;
          cut = behind.cut;
          first = behind.first;
          second = others_from others behind.back behind.second;
        };
      }

abbrev LineStep : Option Stmt → List Token → Type 0
LineStep = Step marks.Semicolon Item (Maybe (mark marks.Semicolon))

abbrev LineParts : (Stmt × List Stmt) × Span → List Token → Type 0
LineParts = Placed span_of (Both (Spells Item) (Loop LineStep))

abbrev line_of : (Stmt × List Stmt) × Span → Stmt
line_of found = stmt_list Seq (found.0.0 ∷ found.0.1) found.1

line_to : (found : (Stmt × List Stmt) × Span) (tokens : List Token) → LineParts found tokens → Spells Line (line_of found) tokens
line_to ((At at form, []), span) tokens member = inl member.1
line_to ((p, next ∷ others), span) tokens member = inr (member.0, parts_to marks.Semicolon Item (Maybe (mark marks.Semicolon)) p next others tokens member.1)

seq_from : (span : Span) (form : Form) (tokens : List Token) → span ≡ span_of tokens → SpellsSeq form tokens → Made line_of LineParts (At span form) tokens
seq_from span (Seq (MoreStmts p (MoreStmts next others))) tokens at member = (
  ((p, next ∷ stmts_of others), span),
  ap (λ o. At span (Seq (MoreStmts p (MoreStmts next o)))) (stmts-of others),
  (at, parts_from marks.Semicolon Item (Maybe (mark marks.Semicolon)) p next others tokens member),
)
seq_from span (Seq (MoreStmts p NoStmts)) tokens at member = absurd member.second
seq_from span (Seq NoStmts) tokens at member = absurd member
seq_from span Nothing tokens at member = absurd member
seq_from span _ tokens at member = absurd member

line_from : (v : Stmt) (tokens : List Token) → Spells Line v tokens → Made line_of LineParts v tokens
line_from (At span form) tokens (inl member) = (((At span form, []), span_of tokens), refl, (refl, member))
line_from (At span form) tokens (inr member) = seq_from span form tokens member.0 member.1

abbrev WholeStep : Option Stmt → List Token → Type 0
WholeStep = Step marks.DoubleBar Line Empty

abbrev WholeParts : (Stmt × List Stmt) × Span → List Token → Type 0
WholeParts = Placed span_of (Both (Spells Line) (Loop WholeStep))

abbrev whole_of : (Stmt × List Stmt) × Span → Stmt
whole_of found = stmt_list Par (found.0.0 ∷ found.0.1) found.1

whole_to : (found : (Stmt × List Stmt) × Span) (tokens : List Token) → WholeParts found tokens → Spells Whole (whole_of found) tokens
whole_to ((At at form, []), span) tokens member =
    let both = member.1 in
    inl (subst (λ ts. Spells Line (At at form) ts) (sym (both.cut ∙ ap (λ b. both.front ++ b) both.second ∙ append-nil both.front)) both.first)
whole_to ((p, next ∷ others), span) tokens member = whole_at (MoreStmts p (MoreStmts next (stmts others)))
    (member.0, parts_to marks.DoubleBar Line Empty p next others tokens member.1)
  where
    whole_at : (parts : Stmts) → Over span (SpellsPar (Par parts)) tokens → Spells Whole (At span (Par parts)) tokens
    whole_at parts member = inr member

par_from : (span : Span) (form : Form) (tokens : List Token) → span ≡ span_of tokens → SpellsPar form tokens → Made whole_of WholeParts (At span form) tokens
par_from span (Par (MoreStmts p (MoreStmts next others))) tokens at member = (
  ((p, next ∷ stmts_of others), span),
  ap (λ o. At span (Par (MoreStmts p (MoreStmts next o)))) (stmts-of others),
  (at, parts_from marks.DoubleBar Line Empty p next others tokens member),
)
par_from span (Par (MoreStmts p NoStmts)) tokens at member = absurd member.second
par_from span (Par NoStmts) tokens at member = absurd member
par_from span Nothing tokens at member = absurd member
par_from span _ tokens at member = absurd member

whole_from : (v : Stmt) (tokens : List Token) → Spells Whole v tokens → Made whole_of WholeParts v tokens
whole_from (At span form) tokens (inl member) =
    (((At span form, []), span_of tokens), refl, (refl, record { front = tokens; back = []; cut = sym (append-nil tokens); first = member; second = refl }))
whole_from (At span form) tokens (inr member) = par_from span form tokens member.0 member.1

abbrev line_turn : Turn
line_turn = record { starts = mark_class marks.Semicolon ∷ []; empty = true; more = item_after; last = mark_class marks.Semicolon ∷ opening_set }

line-steps : {room : Option ℕ} → Reads class (λ n. item n (inside n)) (Spells Item) nesting item_shape room →
    Steps class (λ n. line_step n (inside n)) LineStep nesting line_turn room
line-steps k = trailing-steps (mark-test marks.Semicolon) opening-test k refl refl

line-reads : {room : Option ℕ} → Reads class (λ n. item n (inside n)) (Spells Item) nesting item_shape room →
    Reads class (λ n. line n (inside n)) (Spells Line) nesting line_shape room
line-reads k =
    shape-reads line_shape (made-reads line_of (Spells Line) nesting (placed-reads span_of (both-reads k (loop-reads (line-steps k) refl) refl))
    (list_depth-is Seq (λ _. refl)) line_to line_from)
    refl refl refl

abbrev whole_turn : Turn
whole_turn = record { starts = mark_class marks.DoubleBar ∷ []; empty = true; more = line_shape.after; last = mark_class marks.DoubleBar ∷ [] }

whole-steps : {room : Option ℕ} → Reads class (λ n. line n (inside n)) (Spells Line) nesting line_shape room →
    Steps class (λ n. whole_step n (inside n)) WholeStep nesting whole_turn room
whole-steps k = or-steps (mark-test marks.DoubleBar) k give-reads refl

whole-reads : {room : Option ℕ} → Reads class (λ n. line n (inside n)) (Spells Line) nesting line_shape room →
    Reads class (λ n. whole n (inside n)) (Spells Whole) nesting whole_shape room
whole-reads k =
    shape-reads whole_shape (made-reads whole_of (Spells Whole) nesting (placed-reads span_of (both-reads k (loop-reads (whole-steps k) refl) refl))
    (list_depth-is Par (λ _. refl)) whole_to whole_from)
    refl refl refl

known_from : {room : Option ℕ} → Reads class (λ n. form n (inside n)) (λ v. Led opening (λ o. Behind o v)) form_nesting item_shape room →
    Reads class (λ n. expr n) (SpellsExpr Disjunction) expr_nesting expr_shape room → Known room
known_from {room} k e = record {
  expr = e;
  event = event_known room;
  whole = whole-reads (line-reads (item-from_form k));
}

known_alone : Known None
known_alone = known_from (record { lang = form-lang; laws = tt }) exprs_alone.whole

known_at : (room : ℕ) → Known (fits true room) → Known (Some room)
known_at room k = known_from (choose-reads form_rule form-lang room (form-arms room k)) (exprs_known room).whole

known_below : (room : ℕ) → Below (λ n. Known (Some n)) room → Known (fits true room)
known_below zero below = known_alone
known_below (suc room) below = below

known : (room : ℕ) → Known (Some room)
known = by_room (λ n. Known (Some n)) (λ room below. known_at room (known_below room below))

known_inside : (room : ℕ) → Known (fits true room)
known_inside zero = known_alone
known_inside (suc room) = known room

pub statement-reads : (room : Option ℕ) → Reads class statement (Spells Whole) nesting whole_shape room
statement-reads None = known_alone.whole
statement-reads (Some room) = (known room).whole

-- what the loops in code want to know
item-known : (room : ℕ) → Reads class (λ n. item n (inside n)) (Spells Item) nesting item_shape (Some room)
item-known room = item-from_form (choose-reads form_rule form-lang room (form-arms room (known_inside room)))

pub line-advances : (room : ℕ) → Advances (line_step room (inside room))
line-advances room = Advances-step (line-steps (item-known room)) refl

pub whole-advances : (room : ℕ) → Advances (whole_step room (inside room))
whole-advances room = Advances-step (whole-steps (line-reads (item-known room))) refl

pub case-advances : (room : ℕ) → Advances (case_step (rules room))
case-advances room = Advances-step (case-steps rules (Some room) (known room).expr (known room).event (known room).whole) refl

pub renames-advances : Advances (list_step marks.Comma rename)
renames-advances = list-advances 0 marks.Comma rename-reads refl
