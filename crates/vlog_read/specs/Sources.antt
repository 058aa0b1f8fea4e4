-- Inner: the plain forms of what a text says.
use Rattle.std.specs.Prelude.{ℕ, List, map}
use Rattle.net_expressions.specs.Trees.{Expr}
use Rattle.vlog_read.specs.declared.sources.Declaration.{Declaration as CodeDeclaration}
use Rattle.vlog_read.specs.declared.sources.Initial.{Initial as CodeInitial}
use Rattle.vlog_read.specs.declared.sources.Next.{Next as CodeNext}
use Rattle.vlog_read.specs.declared.sources.Head.{Head}
use Rattle.vlog_read.specs.declared.sources.Clocked.{Clocked}
use Rattle.vlog_read.specs.declared.sources.Source.{Source as CodeSource}
use Rattle.vlog_text.specs.Trees.{Declaration, Initial, Next, Source}
use Rattle.vlog_read.specs.Lexed.{plain_sort}
use Rattle.vlog_text.specs.Views.{assign_of}

abbrev pub declaration_of : CodeDeclaration → Declaration
declaration_of d = record { sort = plain_sort d.sort; name = d.name.now }

abbrev pub initial_of : CodeInitial → Initial
initial_of i = record { name = i.name.now; value = i.value }

abbrev pub next_of : CodeNext → Next
next_of n = record { target = n.target.now; source = n.source.now }

abbrev pub head_of : Head → List ℕ × List (List ℕ)
head_of h = (h.name.now, map (λ w. w.now) h.ports.items)

abbrev pub clocked_of : Clocked → List ℕ × List Next
clocked_of c = (c.clock.now, map next_of c.nexts.items)

abbrev pub plain_source : CodeSource → Source Expr
plain_source s = record {
  name = s.head.name.now;
  ports = map (λ w. w.now) s.head.ports.items;
  declarations = map declaration_of s.declarations.items;
  initials = map initial_of s.initials.items;
  assigns = map assign_of s.assigns.items;
  clock = s.clocked.clock.now;
  nexts = map next_of s.clocked.nexts.items;
}
