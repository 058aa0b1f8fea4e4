-- Inner: the plain form of a statement as it is listed.
use Rattle.std.specs.Prelude.{List, map, slice_index_or}
use Rattle.est_kernel.specs.Plain.{term_of, expression_of}
use Rattle.grc_graph.specs.Scopes.{Binding, Scope, Entering, Outgoing, BoundAt, Unbound}
use Rattle.grc_graph.specs.declared.statements.Binding as bindings
use Rattle.grc_graph.specs.declared.statements.Binding.TheVariants as kinds
use Rattle.grc_graph.specs.declared.statements.Entry as entries
use Rattle.grc_graph.specs.declared.statements.Entry.TheVariants as variants
use Rattle.grc_graph.specs.declared.statements.Statement as statements
use Rattle.grc_graph.specs.Statements.{Entry, Body, Part, Branch, Then, Else, Suspended, Second, Looped, Listed}

abbrev pub entry_view : entries.Entry → Entry
entry_view variants.Body = Body
entry_view (variants.Part n) = Part n
entry_view (variants.Branch n) = Branch n
entry_view (variants.Then n e) = Then n (expression_of e.now)
entry_view (variants.Else n e) = Else n (expression_of e.now)
entry_view (variants.Suspended n e) = Suspended n (expression_of e.now)
entry_view (variants.Second n) = Second n
entry_view (variants.Looped n) = Looped n

abbrev pub binding_of : bindings.Binding → Binding
binding_of kinds.Entering = Entering
binding_of kinds.Outgoing = Outgoing
binding_of (kinds.Bound n) = BoundAt n
binding_of kinds.Unbound = Unbound

-- the scope that a table of bindings by signal is
abbrev pub scope_of : List bindings.Binding → Scope
scope_of table = λ s. slice_index_or (map binding_of table) s Unbound

abbrev pub view_of : statements.Statement → Listed
view_of s = record {
  statement = term_of s.body.now;
  entry = entry_view s.control;
  second = s.second;
  signals = map binding_of s.signals.items;
}
