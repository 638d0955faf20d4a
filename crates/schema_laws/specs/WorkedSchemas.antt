-- Catalogs with their schemas, in the SDL of GraphQL with a line for each type.
use Rattle.std.specs.Prelude.{◌≡◌, ℕ, pos, true, List, [], ◌∷◌, ◌++◌, Some, None, codes}
use Rattle.pg_base.specs.Catalog.{CatalogParts}
use Rattle.pg_base.specs.Tags.{no_tags}
use Rattle.pg_base.specs.Behaviors.{selecting, listing, connecting, inserting, updating, deleting, ordering, filtering}
use Rattle.pg_base.specs.declared.cell.Cell.TheVariants as cell
use Rattle.pg_base.specs.declared.kind.Kind.TheVariants as kind
use Rattle.pg_base.specs.SchemaOf.{schema_of}
use Rattle.pg_base.specs.SchemaFaults.{build_fault}
use Rattle.schema_laws.specs.Outline.{outline}
use Rattle.schema_laws.specs.Examples.{column, not_null, identity, with_default, primary, unique, link, table, enum}
use Rattle.schema_laws.specs.Examples.{catalog, without}

pub record Worked : Type 0 where
  pub catalog : CatalogParts
  pub schema : List (List ℕ)

-- the types that stand first in each schema
abbrev pub with_common : List (List ℕ) → List (List ℕ)
with_common types =
    codes "scalar BigInt" ∷ codes "scalar Cursor"
    ∷ codes "type PageInfo { hasNextPage: Boolean! hasPreviousPage: Boolean! startCursor: Cursor endCursor: Cursor }"
    ∷ types

-- CREATE TABLE t (id integer PRIMARY KEY);
abbrev pub one_table : CatalogParts
one_table = catalog
    []
    ((table (codes "t")
    (not_null (codes "id") kind.Int ∷ [])
    (primary (codes "t_pkey") (0 ∷ []) ∷ [])
    []) ∷ [])

abbrev pub one_table_schema : List (List ℕ)
one_table_schema = with_common
    (codes "type T { id: Int! }"
    ∷ codes "type TsConnection { nodes: [T!]! edges: [TsEdge!]! pageInfo: PageInfo! totalCount: Int! }"
    ∷ codes "type TsEdge { cursor: Cursor! node: T! }"
    ∷ codes "enum TsOrderBy { NATURAL ID_ASC ID_DESC }"
    ∷ codes "input TCondition { id: Int }"
    ∷ codes "input TInput { id: Int! }"
    ∷ codes "input TPatch { id: Int }"
    ∷ (codes "type Query { allTs(first: Int, last: Int, offset: Int, before: Cursor, after: Cursor, "
    ++ codes "orderBy: [TsOrderBy!], condition: TCondition): TsConnection tById(id: Int!): T }")
    ∷ (codes "type Mutation { createT(input: CreateTInput!): CreateTPayload updateTById(input: "
    ++ codes "UpdateTByIdInput!): UpdateTPayload deleteTById(input: DeleteTByIdInput!): DeleteTPayload }")
    ∷ codes "input CreateTInput { clientMutationId: String t: TInput! }"
    ∷ codes "type CreateTPayload { clientMutationId: String t: T }"
    ∷ codes "input UpdateTByIdInput { clientMutationId: String id: Int! tPatch: TPatch! }"
    ∷ codes "type UpdateTPayload { clientMutationId: String t: T }"
    ∷ codes "input DeleteTByIdInput { clientMutationId: String id: Int! }"
    ∷ codes "type DeleteTPayload { clientMutationId: String t: T }" ∷ [])

-- CREATE TABLE users (id serial PRIMARY KEY, name text NOT NULL, email text UNIQUE);
-- CREATE TABLE posts (id serial PRIMARY KEY, author_id integer REFERENCES users, title text NOT NULL);
-- CREATE TABLE comments (id serial PRIMARY KEY, post_id integer NOT NULL REFERENCES posts, body text NOT NULL);
abbrev pub blog : CatalogParts
blog = catalog
    []
    ((table (codes "users")
    (identity (codes "id") kind.Int
    ∷ not_null (codes "name") kind.Text
    ∷ column (codes "email") kind.Text ∷ [])
    (primary (codes "users_pkey") (0 ∷ [])
    ∷ unique (codes "users_email_key") (2 ∷ []) ∷ [])
    [])
    ∷ (table (codes "posts")
    (identity (codes "id") kind.Int
    ∷ column (codes "author_id") kind.Int
    ∷ not_null (codes "title") kind.Text ∷ [])
    (primary (codes "posts_pkey") (0 ∷ []) ∷ [])
    (link (codes "posts_author_id_fkey") (1 ∷ []) 0 (0 ∷ []) ∷ []))
    ∷ (table (codes "comments")
    (identity (codes "id") kind.Int
    ∷ not_null (codes "post_id") kind.Int
    ∷ not_null (codes "body") kind.Text ∷ [])
    (primary (codes "comments_pkey") (0 ∷ []) ∷ [])
    (link (codes "comments_post_id_fkey") (1 ∷ []) 1 (0 ∷ []) ∷ [])) ∷ [])

abbrev pub blog_schema : List (List ℕ)
blog_schema = with_common
    ((codes "type User { id: Int! name: String! email: String postsByAuthorId(first: Int, last: Int, "
    ++ codes "offset: Int, before: Cursor, after: Cursor, orderBy: [PostsOrderBy!], condition: "
    ++ codes "PostCondition): PostsConnection }")
    ∷ (codes "type UsersConnection { nodes: [User!]! edges: [UsersEdge!]! pageInfo: PageInfo! totalCount: "
    ++ codes "Int! }")
    ∷ codes "type UsersEdge { cursor: Cursor! node: User! }"
    ∷ codes "enum UsersOrderBy { NATURAL ID_ASC ID_DESC NAME_ASC NAME_DESC EMAIL_ASC EMAIL_DESC }"
    ∷ codes "input UserCondition { id: Int name: String email: String }"
    ∷ codes "input UserInput { id: Int name: String! email: String }"
    ∷ codes "input UserPatch { id: Int name: String email: String }"
    ∷ (codes "type Post { id: Int! authorId: Int title: String! userByAuthorId: User "
    ++ codes "commentsByPostId(first: Int, last: Int, offset: Int, before: Cursor, after: Cursor, "
    ++ codes "orderBy: [CommentsOrderBy!], condition: CommentCondition): CommentsConnection }")
    ∷ (codes "type PostsConnection { nodes: [Post!]! edges: [PostsEdge!]! pageInfo: PageInfo! totalCount: "
    ++ codes "Int! }")
    ∷ codes "type PostsEdge { cursor: Cursor! node: Post! }"
    ∷ (codes "enum PostsOrderBy { NATURAL ID_ASC ID_DESC AUTHOR_ID_ASC AUTHOR_ID_DESC TITLE_ASC "
    ++ codes "TITLE_DESC }")
    ∷ codes "input PostCondition { id: Int authorId: Int title: String }"
    ∷ codes "input PostInput { id: Int authorId: Int title: String! }"
    ∷ codes "input PostPatch { id: Int authorId: Int title: String }"
    ∷ codes "type Comment { id: Int! postId: Int! body: String! postByPostId: Post }"
    ∷ (codes "type CommentsConnection { nodes: [Comment!]! edges: [CommentsEdge!]! pageInfo: PageInfo! "
    ++ codes "totalCount: Int! }")
    ∷ codes "type CommentsEdge { cursor: Cursor! node: Comment! }"
    ∷ codes "enum CommentsOrderBy { NATURAL ID_ASC ID_DESC POST_ID_ASC POST_ID_DESC BODY_ASC BODY_DESC }"
    ∷ codes "input CommentCondition { id: Int postId: Int body: String }"
    ∷ codes "input CommentInput { id: Int postId: Int! body: String! }"
    ∷ codes "input CommentPatch { id: Int postId: Int body: String }"
    ∷ (codes "type Query { allUsers(first: Int, last: Int, offset: Int, before: Cursor, after: Cursor, "
    ++ codes "orderBy: [UsersOrderBy!], condition: UserCondition): UsersConnection userById(id: Int!): "
    ++ codes "User userByEmail(email: String!): User allPosts(first: Int, last: Int, offset: Int, before: "
    ++ codes "Cursor, after: Cursor, orderBy: [PostsOrderBy!], condition: PostCondition): PostsConnection "
    ++ codes "postById(id: Int!): Post allComments(first: Int, last: Int, offset: Int, before: Cursor, "
    ++ codes "after: Cursor, orderBy: [CommentsOrderBy!], condition: CommentCondition): "
    ++ codes "CommentsConnection commentById(id: Int!): Comment }")
    ∷ (codes "type Mutation { createUser(input: CreateUserInput!): CreateUserPayload "
    ++ codes "updateUserById(input: UpdateUserByIdInput!): UpdateUserPayload updateUserByEmail(input: "
    ++ codes "UpdateUserByEmailInput!): UpdateUserPayload deleteUserById(input: DeleteUserByIdInput!): "
    ++ codes "DeleteUserPayload deleteUserByEmail(input: DeleteUserByEmailInput!): DeleteUserPayload "
    ++ codes "createPost(input: CreatePostInput!): CreatePostPayload updatePostById(input: "
    ++ codes "UpdatePostByIdInput!): UpdatePostPayload deletePostById(input: DeletePostByIdInput!): "
    ++ codes "DeletePostPayload createComment(input: CreateCommentInput!): CreateCommentPayload "
    ++ codes "updateCommentById(input: UpdateCommentByIdInput!): UpdateCommentPayload "
    ++ codes "deleteCommentById(input: DeleteCommentByIdInput!): DeleteCommentPayload }")
    ∷ codes "input CreateUserInput { clientMutationId: String user: UserInput! }"
    ∷ codes "type CreateUserPayload { clientMutationId: String user: User }"
    ∷ codes "input UpdateUserByIdInput { clientMutationId: String id: Int! userPatch: UserPatch! }"
    ∷ (codes "input UpdateUserByEmailInput { clientMutationId: String email: String! userPatch: "
    ++ codes "UserPatch! }")
    ∷ codes "type UpdateUserPayload { clientMutationId: String user: User }"
    ∷ codes "input DeleteUserByIdInput { clientMutationId: String id: Int! }"
    ∷ codes "input DeleteUserByEmailInput { clientMutationId: String email: String! }"
    ∷ codes "type DeleteUserPayload { clientMutationId: String user: User }"
    ∷ codes "input CreatePostInput { clientMutationId: String post: PostInput! }"
    ∷ codes "type CreatePostPayload { clientMutationId: String post: Post }"
    ∷ codes "input UpdatePostByIdInput { clientMutationId: String id: Int! postPatch: PostPatch! }"
    ∷ codes "type UpdatePostPayload { clientMutationId: String post: Post }"
    ∷ codes "input DeletePostByIdInput { clientMutationId: String id: Int! }"
    ∷ codes "type DeletePostPayload { clientMutationId: String post: Post }"
    ∷ codes "input CreateCommentInput { clientMutationId: String comment: CommentInput! }"
    ∷ codes "type CreateCommentPayload { clientMutationId: String comment: Comment }"
    ∷ (codes "input UpdateCommentByIdInput { clientMutationId: String id: Int! commentPatch: "
    ++ codes "CommentPatch! }")
    ∷ codes "type UpdateCommentPayload { clientMutationId: String comment: Comment }"
    ∷ codes "input DeleteCommentByIdInput { clientMutationId: String id: Int! }"
    ∷ codes "type DeleteCommentPayload { clientMutationId: String comment: Comment }" ∷ [])

-- CREATE TABLE pairs (a integer, b_c integer, x text, PRIMARY KEY (a, b_c), UNIQUE (b_c, a), UNIQUE (a, b_c),
-- UNIQUE (x));
abbrev pub two_keys : CatalogParts
two_keys = catalog
    []
    ((table (codes "pairs")
    (not_null (codes "a") kind.Int
    ∷ not_null (codes "b_c") kind.Int
    ∷ column (codes "x") kind.Text ∷ [])
    (primary (codes "pairs_pkey") (0 ∷ 1 ∷ [])
    ∷ unique (codes "pairs_b_c_a_key") (1 ∷ 0 ∷ [])
    ∷ unique (codes "pairs_a_b_c_key") (0 ∷ 1 ∷ [])
    ∷ unique (codes "pairs_x_key") (2 ∷ []) ∷ [])
    []) ∷ [])

abbrev pub two_keys_schema : List (List ℕ)
two_keys_schema = with_common
    (codes "type Pair { a: Int! bC: Int! x: String }"
    ∷ (codes "type PairsConnection { nodes: [Pair!]! edges: [PairsEdge!]! pageInfo: PageInfo! totalCount: "
    ++ codes "Int! }")
    ∷ codes "type PairsEdge { cursor: Cursor! node: Pair! }"
    ∷ codes "enum PairsOrderBy { NATURAL A_ASC A_DESC B_C_ASC B_C_DESC X_ASC X_DESC }"
    ∷ codes "input PairCondition { a: Int bC: Int x: String }"
    ∷ codes "input PairInput { a: Int! bC: Int! x: String }"
    ∷ codes "input PairPatch { a: Int bC: Int x: String }"
    ∷ (codes "type Query { allPairs(first: Int, last: Int, offset: Int, before: Cursor, after: Cursor, "
    ++ codes "orderBy: [PairsOrderBy!], condition: PairCondition): PairsConnection pairByAAndBC(a: Int!, "
    ++ codes "bC: Int!): Pair pairByBCAndA(bC: Int!, a: Int!): Pair pairByX(x: String!): Pair }")
    ∷ (codes "type Mutation { createPair(input: CreatePairInput!): CreatePairPayload "
    ++ codes "updatePairByAAndBC(input: UpdatePairByAAndBCInput!): UpdatePairPayload "
    ++ codes "updatePairByBCAndA(input: UpdatePairByBCAndAInput!): UpdatePairPayload updatePairByX(input: "
    ++ codes "UpdatePairByXInput!): UpdatePairPayload deletePairByAAndBC(input: "
    ++ codes "DeletePairByAAndBCInput!): DeletePairPayload deletePairByBCAndA(input: "
    ++ codes "DeletePairByBCAndAInput!): DeletePairPayload deletePairByX(input: DeletePairByXInput!): "
    ++ codes "DeletePairPayload }")
    ∷ codes "input CreatePairInput { clientMutationId: String pair: PairInput! }"
    ∷ codes "type CreatePairPayload { clientMutationId: String pair: Pair }"
    ∷ (codes "input UpdatePairByAAndBCInput { clientMutationId: String a: Int! bC: Int! pairPatch: "
    ++ codes "PairPatch! }")
    ∷ (codes "input UpdatePairByBCAndAInput { clientMutationId: String bC: Int! a: Int! pairPatch: "
    ++ codes "PairPatch! }")
    ∷ codes "input UpdatePairByXInput { clientMutationId: String x: String! pairPatch: PairPatch! }"
    ∷ codes "type UpdatePairPayload { clientMutationId: String pair: Pair }"
    ∷ codes "input DeletePairByAAndBCInput { clientMutationId: String a: Int! bC: Int! }"
    ∷ codes "input DeletePairByBCAndAInput { clientMutationId: String bC: Int! a: Int! }"
    ∷ codes "input DeletePairByXInput { clientMutationId: String x: String! }"
    ∷ codes "type DeletePairPayload { clientMutationId: String pair: Pair }" ∷ [])

-- CREATE TYPE odd_mood AS ENUM ('', 'in-between', '2nd', 'veryHappy', 'sad');
-- CREATE TABLE t (m odd_mood NOT NULL);
abbrev pub odd_labels : CatalogParts
odd_labels = catalog
    (enum (codes "odd_mood") (codes "" ∷ codes "in-between" ∷ codes "2nd" ∷ codes "veryHappy" ∷ codes "sad"
    ∷ []) ∷ [])
    ((table (codes "t")
    (not_null (codes "m") (kind.Enum 0) ∷ [])
    []
    []) ∷ [])

abbrev pub odd_labels_schema : List (List ℕ)
odd_labels_schema = with_common
    (codes "enum OddMood { _EMPTY_ IN_BETWEEN _2ND VERY_HAPPY SAD }"
    ∷ codes "type T { m: OddMood! }"
    ∷ codes "type TsConnection { nodes: [T!]! edges: [TsEdge!]! pageInfo: PageInfo! totalCount: Int! }"
    ∷ codes "type TsEdge { cursor: Cursor! node: T! }"
    ∷ codes "enum TsOrderBy { NATURAL M_ASC M_DESC }"
    ∷ codes "input TCondition { m: OddMood }"
    ∷ codes "input TInput { m: OddMood! }"
    ∷ (codes "type Query { allTs(first: Int, last: Int, offset: Int, before: Cursor, after: Cursor, "
    ++ codes "orderBy: [TsOrderBy!], condition: TCondition): TsConnection }")
    ∷ codes "type Mutation { createT(input: CreateTInput!): CreateTPayload }"
    ∷ codes "input CreateTInput { clientMutationId: String t: TInput! }"
    ∷ codes "type CreateTPayload { clientMutationId: String t: T }" ∷ [])

-- CREATE TABLE boxes (id integer PRIMARY KEY, inside integer REFERENCES boxes);
abbrev pub to_itself : CatalogParts
to_itself = catalog
    []
    ((table (codes "boxes")
    (not_null (codes "id") kind.Int
    ∷ column (codes "inside") kind.Int ∷ [])
    (primary (codes "boxes_pkey") (0 ∷ []) ∷ [])
    (link (codes "boxes_inside_fkey") (1 ∷ []) 0 (0 ∷ []) ∷ [])) ∷ [])

abbrev pub to_itself_schema : List (List ℕ)
to_itself_schema = with_common
    ((codes "type Box { id: Int! inside: Int boxByInside: Box boxesByInside(first: Int, last: Int, "
    ++ codes "offset: Int, before: Cursor, after: Cursor, orderBy: [BoxesOrderBy!], condition: "
    ++ codes "BoxCondition): BoxesConnection }")
    ∷ (codes "type BoxesConnection { nodes: [Box!]! edges: [BoxesEdge!]! pageInfo: PageInfo! totalCount: "
    ++ codes "Int! }")
    ∷ codes "type BoxesEdge { cursor: Cursor! node: Box! }"
    ∷ codes "enum BoxesOrderBy { NATURAL ID_ASC ID_DESC INSIDE_ASC INSIDE_DESC }"
    ∷ codes "input BoxCondition { id: Int inside: Int }"
    ∷ codes "input BoxInput { id: Int! inside: Int }"
    ∷ codes "input BoxPatch { id: Int inside: Int }"
    ∷ (codes "type Query { allBoxes(first: Int, last: Int, offset: Int, before: Cursor, after: Cursor, "
    ++ codes "orderBy: [BoxesOrderBy!], condition: BoxCondition): BoxesConnection boxById(id: Int!): Box }")
    ∷ (codes "type Mutation { createBox(input: CreateBoxInput!): CreateBoxPayload updateBoxById(input: "
    ++ codes "UpdateBoxByIdInput!): UpdateBoxPayload deleteBoxById(input: DeleteBoxByIdInput!): "
    ++ codes "DeleteBoxPayload }")
    ∷ codes "input CreateBoxInput { clientMutationId: String box: BoxInput! }"
    ∷ codes "type CreateBoxPayload { clientMutationId: String box: Box }"
    ∷ codes "input UpdateBoxByIdInput { clientMutationId: String id: Int! boxPatch: BoxPatch! }"
    ∷ codes "type UpdateBoxPayload { clientMutationId: String box: Box }"
    ∷ codes "input DeleteBoxByIdInput { clientMutationId: String id: Int! }"
    ∷ codes "type DeleteBoxPayload { clientMutationId: String box: Box }" ∷ [])

-- CREATE TABLE users (id integer PRIMARY KEY);
-- CREATE TABLE details (user_id integer PRIMARY KEY REFERENCES users, note text);
abbrev pub one_to_one : CatalogParts
one_to_one = catalog
    []
    ((table (codes "users")
    (not_null (codes "id") kind.Int ∷ [])
    (primary (codes "users_pkey") (0 ∷ []) ∷ [])
    [])
    ∷ (table (codes "details")
    (not_null (codes "user_id") kind.Int
    ∷ column (codes "note") kind.Text ∷ [])
    (primary (codes "details_pkey") (0 ∷ []) ∷ [])
    (link (codes "details_user_id_fkey") (0 ∷ []) 0 (0 ∷ []) ∷ [])) ∷ [])

abbrev pub one_to_one_schema : List (List ℕ)
one_to_one_schema = with_common
    (codes "type User { id: Int! detailByUserId: Detail }"
    ∷ (codes "type UsersConnection { nodes: [User!]! edges: [UsersEdge!]! pageInfo: PageInfo! totalCount: "
    ++ codes "Int! }")
    ∷ codes "type UsersEdge { cursor: Cursor! node: User! }"
    ∷ codes "enum UsersOrderBy { NATURAL ID_ASC ID_DESC }"
    ∷ codes "input UserCondition { id: Int }"
    ∷ codes "input UserInput { id: Int! }"
    ∷ codes "input UserPatch { id: Int }"
    ∷ codes "type Detail { userId: Int! note: String userByUserId: User }"
    ∷ (codes "type DetailsConnection { nodes: [Detail!]! edges: [DetailsEdge!]! pageInfo: PageInfo! "
    ++ codes "totalCount: Int! }")
    ∷ codes "type DetailsEdge { cursor: Cursor! node: Detail! }"
    ∷ codes "enum DetailsOrderBy { NATURAL USER_ID_ASC USER_ID_DESC NOTE_ASC NOTE_DESC }"
    ∷ codes "input DetailCondition { userId: Int note: String }"
    ∷ codes "input DetailInput { userId: Int! note: String }"
    ∷ codes "input DetailPatch { userId: Int note: String }"
    ∷ (codes "type Query { allUsers(first: Int, last: Int, offset: Int, before: Cursor, after: Cursor, "
    ++ codes "orderBy: [UsersOrderBy!], condition: UserCondition): UsersConnection userById(id: Int!): "
    ++ codes "User allDetails(first: Int, last: Int, offset: Int, before: Cursor, after: Cursor, orderBy: "
    ++ codes "[DetailsOrderBy!], condition: DetailCondition): DetailsConnection detailByUserId(userId: "
    ++ codes "Int!): Detail }")
    ∷ (codes "type Mutation { createUser(input: CreateUserInput!): CreateUserPayload "
    ++ codes "updateUserById(input: UpdateUserByIdInput!): UpdateUserPayload deleteUserById(input: "
    ++ codes "DeleteUserByIdInput!): DeleteUserPayload createDetail(input: CreateDetailInput!): "
    ++ codes "CreateDetailPayload updateDetailByUserId(input: UpdateDetailByUserIdInput!): "
    ++ codes "UpdateDetailPayload deleteDetailByUserId(input: DeleteDetailByUserIdInput!): "
    ++ codes "DeleteDetailPayload }")
    ∷ codes "input CreateUserInput { clientMutationId: String user: UserInput! }"
    ∷ codes "type CreateUserPayload { clientMutationId: String user: User }"
    ∷ codes "input UpdateUserByIdInput { clientMutationId: String id: Int! userPatch: UserPatch! }"
    ∷ codes "type UpdateUserPayload { clientMutationId: String user: User }"
    ∷ codes "input DeleteUserByIdInput { clientMutationId: String id: Int! }"
    ∷ codes "type DeleteUserPayload { clientMutationId: String user: User }"
    ∷ codes "input CreateDetailInput { clientMutationId: String detail: DetailInput! }"
    ∷ codes "type CreateDetailPayload { clientMutationId: String detail: Detail }"
    ∷ (codes "input UpdateDetailByUserIdInput { clientMutationId: String userId: Int! detailPatch: "
    ++ codes "DetailPatch! }")
    ∷ codes "type UpdateDetailPayload { clientMutationId: String detail: Detail }"
    ∷ codes "input DeleteDetailByUserIdInput { clientMutationId: String userId: Int! }"
    ∷ codes "type DeleteDetailPayload { clientMutationId: String detail: Detail }" ∷ [])

-- CREATE TABLE a (id integer PRIMARY KEY);
-- CREATE TABLE b (id integer PRIMARY KEY);
-- CREATE TABLE c (id integer PRIMARY KEY);
-- COMMENT ON TABLE a IS '@behavior -select -list -insert -order';
-- COMMENT ON TABLE b IS '@behavior -connection -update -filter';
-- COMMENT ON TABLE c IS '@behavior -delete';
abbrev pub table_behaviors : CatalogParts
table_behaviors = catalog
    []
    ((record (table (codes "a")
    (not_null (codes "id") kind.Int ∷ [])
    (primary (codes "a_pkey") (0 ∷ []) ∷ [])
    [])
    { tags = record no_tags { behavior = without (selecting ∷ listing ∷ inserting ∷ ordering ∷ []) } })
    ∷ (record (table (codes "b")
    (not_null (codes "id") kind.Int ∷ [])
    (primary (codes "b_pkey") (0 ∷ []) ∷ [])
    [])
    { tags = record no_tags { behavior = without (connecting ∷ updating ∷ filtering ∷ []) } })
    ∷ (record (table (codes "c")
    (not_null (codes "id") kind.Int ∷ [])
    (primary (codes "c_pkey") (0 ∷ []) ∷ [])
    [])
    { tags = record no_tags { behavior = without (deleting ∷ []) } }) ∷ [])

abbrev pub table_behaviors_schema : List (List ℕ)
table_behaviors_schema = with_common
    (codes "type A { id: Int! }"
    ∷ codes "type AsConnection { edges: [AsEdge!]! pageInfo: PageInfo! totalCount: Int! }"
    ∷ codes "type AsEdge { cursor: Cursor! node: A! }"
    ∷ codes "enum AsOrderBy { NATURAL }"
    ∷ codes "input ACondition { id: Int }"
    ∷ codes "input APatch { id: Int }"
    ∷ codes "type B { id: Int! }"
    ∷ codes "type BsConnection { nodes: [B!]! edges: [BsEdge!]! pageInfo: PageInfo! totalCount: Int! }"
    ∷ codes "type BsEdge { cursor: Cursor! node: B! }"
    ∷ codes "enum BsOrderBy { NATURAL ID_ASC ID_DESC }"
    ∷ codes "input BInput { id: Int! }"
    ∷ codes "type C { id: Int! }"
    ∷ codes "type CsConnection { nodes: [C!]! edges: [CsEdge!]! pageInfo: PageInfo! totalCount: Int! }"
    ∷ codes "type CsEdge { cursor: Cursor! node: C! }"
    ∷ codes "enum CsOrderBy { NATURAL ID_ASC ID_DESC }"
    ∷ codes "input CCondition { id: Int }"
    ∷ codes "input CInput { id: Int! }"
    ∷ codes "input CPatch { id: Int }"
    ∷ (codes "type Query { allAs(first: Int, last: Int, offset: Int, before: Cursor, after: Cursor, "
    ++ codes "orderBy: [AsOrderBy!], condition: ACondition): AsConnection bById(id: Int!): B allCs(first: "
    ++ codes "Int, last: Int, offset: Int, before: Cursor, after: Cursor, orderBy: [CsOrderBy!], "
    ++ codes "condition: CCondition): CsConnection cById(id: Int!): C }")
    ∷ (codes "type Mutation { updateAById(input: UpdateAByIdInput!): UpdateAPayload deleteAById(input: "
    ++ codes "DeleteAByIdInput!): DeleteAPayload createB(input: CreateBInput!): CreateBPayload "
    ++ codes "deleteBById(input: DeleteBByIdInput!): DeleteBPayload createC(input: CreateCInput!): "
    ++ codes "CreateCPayload updateCById(input: UpdateCByIdInput!): UpdateCPayload }")
    ∷ codes "input UpdateAByIdInput { clientMutationId: String id: Int! aPatch: APatch! }"
    ∷ codes "type UpdateAPayload { clientMutationId: String a: A }"
    ∷ codes "input DeleteAByIdInput { clientMutationId: String id: Int! }"
    ∷ codes "type DeleteAPayload { clientMutationId: String a: A }"
    ∷ codes "input CreateBInput { clientMutationId: String b: BInput! }"
    ∷ codes "type CreateBPayload { clientMutationId: String b: B }"
    ∷ codes "input DeleteBByIdInput { clientMutationId: String id: Int! }"
    ∷ codes "type DeleteBPayload { clientMutationId: String b: B }"
    ∷ codes "input CreateCInput { clientMutationId: String c: CInput! }"
    ∷ codes "type CreateCPayload { clientMutationId: String c: C }"
    ∷ codes "input UpdateCByIdInput { clientMutationId: String id: Int! cPatch: CPatch! }"
    ∷ codes "type UpdateCPayload { clientMutationId: String c: C }" ∷ [])

-- CREATE TABLE t (a integer NOT NULL, b integer NOT NULL DEFAULT 3, c bigint, d boolean, e varchar(3));
-- COMMENT ON COLUMN t.a IS '@behavior -select';
-- COMMENT ON COLUMN t.b IS '@behavior -insert -order';
-- COMMENT ON COLUMN t.c IS '@behavior -update -filter';
abbrev pub column_behaviors : CatalogParts
column_behaviors = catalog
    []
    ((table (codes "t")
    (record (not_null (codes "a") kind.Int) { tags = record no_tags { behavior = without (selecting ∷ []) } }
    ∷ record (record (with_default (codes "b") kind.Int (cell.Int (pos 3))) { not_null = true })
    { tags = record no_tags { behavior = without (inserting ∷ ordering ∷ []) } }
    ∷ record (column (codes "c") kind.BigInt)
    { tags = record no_tags { behavior = without (updating ∷ filtering ∷ []) } }
    ∷ column (codes "d") kind.Bool
    ∷ column (codes "e") (kind.Varchar 3) ∷ [])
    []
    []) ∷ [])

abbrev pub column_behaviors_schema : List (List ℕ)
column_behaviors_schema = with_common
    (codes "type T { b: Int! c: BigInt d: Boolean e: String }"
    ∷ codes "type TsConnection { nodes: [T!]! edges: [TsEdge!]! pageInfo: PageInfo! totalCount: Int! }"
    ∷ codes "type TsEdge { cursor: Cursor! node: T! }"
    ∷ codes "enum TsOrderBy { NATURAL A_ASC A_DESC C_ASC C_DESC D_ASC D_DESC E_ASC E_DESC }"
    ∷ codes "input TCondition { a: Int b: Int d: Boolean e: String }"
    ∷ codes "input TInput { a: Int! c: BigInt d: Boolean e: String }"
    ∷ (codes "type Query { allTs(first: Int, last: Int, offset: Int, before: Cursor, after: Cursor, "
    ++ codes "orderBy: [TsOrderBy!], condition: TCondition): TsConnection }")
    ∷ codes "type Mutation { createT(input: CreateTInput!): CreateTPayload }"
    ∷ codes "input CreateTInput { clientMutationId: String t: TInput! }"
    ∷ codes "type CreateTPayload { clientMutationId: String t: T }" ∷ [])

-- CREATE TABLE people (id integer PRIMARY KEY, boss_id integer UNIQUE REFERENCES people, old text);
-- COMMENT ON TABLE people IS '@name staff_cities';
-- COMMENT ON COLUMN people.old IS '@name new_name';
-- COMMENT ON CONSTRAINT people_pkey ON people IS '@fieldName oneOfStaff';
-- COMMENT ON CONSTRAINT people_boss_id_fkey ON people IS E'@fieldName boss\n@foreignFieldName assistant';
abbrev pub renamed : CatalogParts
renamed = catalog
    []
    ((record (table (codes "people")
    (not_null (codes "id") kind.Int
    ∷ column (codes "boss_id") kind.Int
    ∷ record (column (codes "old") kind.Text) { tags = record no_tags { name = Some (codes "new_name") } } ∷ [])
    (record (primary (codes "people_pkey") (0 ∷ []))
    { tags = record no_tags { field_name = Some (codes "oneOfStaff") } }
    ∷ unique (codes "people_boss_id_key") (1 ∷ []) ∷ [])
    (record (link (codes "people_boss_id_fkey") (1 ∷ []) 0 (0 ∷ [])) {
      tags = record no_tags {
        field_name = Some (codes "boss");
        foreign_field_name = Some
            (codes "assistant");
      };
    } ∷ []))
    { tags = record no_tags { name = Some (codes "staff_cities") } }) ∷ [])

abbrev pub renamed_schema : List (List ℕ)
renamed_schema = with_common
    (codes "type StaffCity { id: Int! bossId: Int newName: String boss: StaffCity assistant: StaffCity }"
    ∷ (codes "type StaffCitiesConnection { nodes: [StaffCity!]! edges: [StaffCitiesEdge!]! pageInfo: "
    ++ codes "PageInfo! totalCount: Int! }")
    ∷ codes "type StaffCitiesEdge { cursor: Cursor! node: StaffCity! }"
    ∷ (codes "enum StaffCitiesOrderBy { NATURAL ID_ASC ID_DESC BOSS_ID_ASC BOSS_ID_DESC NEW_NAME_ASC "
    ++ codes "NEW_NAME_DESC }")
    ∷ codes "input StaffCityCondition { id: Int bossId: Int newName: String }"
    ∷ codes "input StaffCityInput { id: Int! bossId: Int newName: String }"
    ∷ codes "input StaffCityPatch { id: Int bossId: Int newName: String }"
    ∷ (codes "type Query { allStaffCities(first: Int, last: Int, offset: Int, before: Cursor, after: "
    ++ codes "Cursor, orderBy: [StaffCitiesOrderBy!], condition: StaffCityCondition): "
    ++ codes "StaffCitiesConnection oneOfStaff(id: Int!): StaffCity staffCityByBossId(bossId: Int!): "
    ++ codes "StaffCity }")
    ∷ (codes "type Mutation { createStaffCity(input: CreateStaffCityInput!): CreateStaffCityPayload "
    ++ codes "updateStaffCityById(input: UpdateStaffCityByIdInput!): UpdateStaffCityPayload "
    ++ codes "updateStaffCityByBossId(input: UpdateStaffCityByBossIdInput!): UpdateStaffCityPayload "
    ++ codes "deleteStaffCityById(input: DeleteStaffCityByIdInput!): DeleteStaffCityPayload "
    ++ codes "deleteStaffCityByBossId(input: DeleteStaffCityByBossIdInput!): DeleteStaffCityPayload }")
    ∷ codes "input CreateStaffCityInput { clientMutationId: String staffCity: StaffCityInput! }"
    ∷ codes "type CreateStaffCityPayload { clientMutationId: String staffCity: StaffCity }"
    ∷ (codes "input UpdateStaffCityByIdInput { clientMutationId: String id: Int! staffCityPatch: "
    ++ codes "StaffCityPatch! }")
    ∷ (codes "input UpdateStaffCityByBossIdInput { clientMutationId: String bossId: Int! staffCityPatch: "
    ++ codes "StaffCityPatch! }")
    ∷ codes "type UpdateStaffCityPayload { clientMutationId: String staffCity: StaffCity }"
    ∷ codes "input DeleteStaffCityByIdInput { clientMutationId: String id: Int! }"
    ∷ codes "input DeleteStaffCityByBossIdInput { clientMutationId: String bossId: Int! }"
    ∷ codes "type DeleteStaffCityPayload { clientMutationId: String staffCity: StaffCity }" ∷ [])

-- CREATE TABLE users (id integer PRIMARY KEY, nick text);
-- CREATE TABLE posts (id integer PRIMARY KEY, author_id integer REFERENCES users);
-- COMMENT ON COLUMN users.nick IS E'@deprecated say "name"';
-- COMMENT ON CONSTRAINT users_pkey ON users IS '@deprecated no keys';
-- COMMENT ON CONSTRAINT posts_author_id_fkey ON posts IS '@deprecated no links';
abbrev pub deprecated : CatalogParts
deprecated = catalog
    []
    ((table (codes "users")
    (not_null (codes "id") kind.Int
    ∷ record (column (codes "nick") kind.Text)
    { tags = record no_tags { deprecated = Some (codes "say \"name\"") } } ∷ [])
    (record (primary (codes "users_pkey") (0 ∷ []))
    { tags = record no_tags { deprecated = Some (codes "no keys") } } ∷ [])
    [])
    ∷ (table (codes "posts")
    (not_null (codes "id") kind.Int
    ∷ column (codes "author_id") kind.Int ∷ [])
    (primary (codes "posts_pkey") (0 ∷ []) ∷ [])
    (record (link (codes "posts_author_id_fkey") (1 ∷ []) 0 (0 ∷ []))
    { tags = record no_tags { deprecated = Some (codes "no links") } } ∷ [])) ∷ [])

abbrev pub deprecated_schema : List (List ℕ)
deprecated_schema = with_common
    ((codes "type User { id: Int! nick: String @deprecated(say \"name\") postsByAuthorId(first: Int, last: "
    ++ codes "Int, offset: Int, before: Cursor, after: Cursor, orderBy: [PostsOrderBy!], condition: "
    ++ codes "PostCondition): PostsConnection @deprecated(no links) }")
    ∷ (codes "type UsersConnection { nodes: [User!]! edges: [UsersEdge!]! pageInfo: PageInfo! totalCount: "
    ++ codes "Int! }")
    ∷ codes "type UsersEdge { cursor: Cursor! node: User! }"
    ∷ codes "enum UsersOrderBy { NATURAL ID_ASC ID_DESC NICK_ASC NICK_DESC }"
    ∷ codes "input UserCondition { id: Int nick: String }"
    ∷ codes "input UserInput { id: Int! nick: String }"
    ∷ codes "input UserPatch { id: Int nick: String }"
    ∷ codes "type Post { id: Int! authorId: Int userByAuthorId: User @deprecated(no links) }"
    ∷ (codes "type PostsConnection { nodes: [Post!]! edges: [PostsEdge!]! pageInfo: PageInfo! totalCount: "
    ++ codes "Int! }")
    ∷ codes "type PostsEdge { cursor: Cursor! node: Post! }"
    ∷ codes "enum PostsOrderBy { NATURAL ID_ASC ID_DESC AUTHOR_ID_ASC AUTHOR_ID_DESC }"
    ∷ codes "input PostCondition { id: Int authorId: Int }"
    ∷ codes "input PostInput { id: Int! authorId: Int }"
    ∷ codes "input PostPatch { id: Int authorId: Int }"
    ∷ (codes "type Query { allUsers(first: Int, last: Int, offset: Int, before: Cursor, after: Cursor, "
    ++ codes "orderBy: [UsersOrderBy!], condition: UserCondition): UsersConnection userById(id: Int!): "
    ++ codes "User @deprecated(no keys) allPosts(first: Int, last: Int, offset: Int, before: Cursor, "
    ++ codes "after: Cursor, orderBy: [PostsOrderBy!], condition: PostCondition): PostsConnection "
    ++ codes "postById(id: Int!): Post }")
    ∷ (codes "type Mutation { createUser(input: CreateUserInput!): CreateUserPayload "
    ++ codes "updateUserById(input: UpdateUserByIdInput!): UpdateUserPayload @deprecated(no keys) "
    ++ codes "deleteUserById(input: DeleteUserByIdInput!): DeleteUserPayload @deprecated(no keys) "
    ++ codes "createPost(input: CreatePostInput!): CreatePostPayload updatePostById(input: "
    ++ codes "UpdatePostByIdInput!): UpdatePostPayload deletePostById(input: DeletePostByIdInput!): "
    ++ codes "DeletePostPayload }")
    ∷ codes "input CreateUserInput { clientMutationId: String user: UserInput! }"
    ∷ codes "type CreateUserPayload { clientMutationId: String user: User }"
    ∷ codes "input UpdateUserByIdInput { clientMutationId: String id: Int! userPatch: UserPatch! }"
    ∷ codes "type UpdateUserPayload { clientMutationId: String user: User }"
    ∷ codes "input DeleteUserByIdInput { clientMutationId: String id: Int! }"
    ∷ codes "type DeleteUserPayload { clientMutationId: String user: User }"
    ∷ codes "input CreatePostInput { clientMutationId: String post: PostInput! }"
    ∷ codes "type CreatePostPayload { clientMutationId: String post: Post }"
    ∷ codes "input UpdatePostByIdInput { clientMutationId: String id: Int! postPatch: PostPatch! }"
    ∷ codes "type UpdatePostPayload { clientMutationId: String post: Post }"
    ∷ codes "input DeletePostByIdInput { clientMutationId: String id: Int! }"
    ∷ codes "type DeletePostPayload { clientMutationId: String post: Post }" ∷ [])

-- CREATE TABLE t (a integer);
-- COMMENT ON COLUMN t.a IS '@behavior -insert -filter';
abbrev pub without_changes : CatalogParts
without_changes = catalog
    []
    ((table (codes "t")
    (record (column (codes "a") kind.Int)
    { tags = record no_tags { behavior = without (inserting ∷ filtering ∷ []) } } ∷ [])
    []
    []) ∷ [])

abbrev pub without_changes_schema : List (List ℕ)
without_changes_schema = with_common
    (codes "type T { a: Int }"
    ∷ codes "type TsConnection { nodes: [T!]! edges: [TsEdge!]! pageInfo: PageInfo! totalCount: Int! }"
    ∷ codes "type TsEdge { cursor: Cursor! node: T! }"
    ∷ codes "enum TsOrderBy { NATURAL A_ASC A_DESC }"
    ∷ (codes "type Query { allTs(first: Int, last: Int, offset: Int, before: Cursor, after: Cursor, "
    ++ codes "orderBy: [TsOrderBy!]): TsConnection }") ∷ [])

-- CREATE TYPE e AS ENUM ('p');
-- CREATE TABLE a (i integer, j integer, c e, PRIMARY KEY (i, j));
-- CREATE TABLE b (x integer UNIQUE, y integer NOT NULL DEFAULT 3, z integer, UNIQUE (y, z, x),
--   CONSTRAINT k FOREIGN KEY (x, y) REFERENCES a, CONSTRAINT l FOREIGN KEY (y, z) REFERENCES a,
--   CONSTRAINT m FOREIGN KEY (x, z) REFERENCES a, CONSTRAINT n FOREIGN KEY (z, y) REFERENCES a);
-- COMMENT ON TYPE e IS '@name hue'; COMMENT ON COLUMN a.j IS '@name up';
-- COMMENT ON COLUMN b.x IS '@behavior -update'; and so for b.y and b.z
-- COMMENT ON CONSTRAINT k ON b IS '@deprecated old'; COMMENT ON CONSTRAINT l ON b IS '@foreignFieldName bees';
-- COMMENT ON CONSTRAINT m ON b IS '@behavior -select'; COMMENT ON CONSTRAINT n ON b IS '@behavior -connection';
abbrev pub tagged_links : CatalogParts
tagged_links = catalog
    (record (enum (codes "e") (codes "p" ∷ [])) { tags = record no_tags { name = Some (codes "hue") } } ∷ [])
    ((table (codes "a")
    (not_null (codes "i") kind.Int
    ∷ record (not_null (codes "j") kind.Int) { tags = record no_tags { name = Some (codes "up") } }
    ∷ column (codes "c") (kind.Enum 0) ∷ [])
    (primary (codes "a_pkey") (0 ∷ 1 ∷ []) ∷ [])
    [])
    ∷ (table (codes "b")
    (record (column (codes "x") kind.Int) { tags = record no_tags { behavior = without (updating ∷ []) } }
    ∷ record (with_default (codes "y") kind.Int (cell.Int (pos 3)))
    { not_null = true; tags = record no_tags { behavior = without (updating ∷ []) } }
    ∷ record (column (codes "z") kind.Int) { tags = record no_tags { behavior = without (updating ∷ []) } } ∷ [])
    (unique (codes "b_x_key") (0 ∷ []) ∷ unique (codes "b_y_z_x_key") (1 ∷ 2 ∷ 0 ∷ []) ∷ [])
    (record (link (codes "k") (0 ∷ 1 ∷ []) 0 (0 ∷ 1 ∷ []))
    { tags = record no_tags { deprecated = Some (codes "old") } }
    ∷ record (link (codes "l") (1 ∷ 2 ∷ []) 0 (0 ∷ 1 ∷ []))
    { tags = record no_tags { foreign_field_name = Some (codes "bees") } }
    ∷ record (link (codes "m") (0 ∷ 2 ∷ []) 0 (0 ∷ 1 ∷ []))
    { tags = record no_tags { behavior = without (selecting ∷ []) } }
    ∷ record (link (codes "n") (2 ∷ 1 ∷ []) 0 (0 ∷ 1 ∷ []))
    { tags = record no_tags { behavior = without (connecting ∷ []) } } ∷ [])) ∷ [])

abbrev pub tagged_links_schema : List (List ℕ)
tagged_links_schema = with_common
    (codes "enum Hue { P }"
    ∷ (codes "type A { i: Int! up: Int! c: Hue bByXAndY: B @deprecated(old) bees(first: Int, last: "
    ++ codes "Int, offset: Int, before: Cursor, after: Cursor, orderBy: [BsOrderBy!], condition: "
    ++ codes "BCondition): BsConnection bByXAndZ: B }")
    ∷ (codes "type AsConnection { nodes: [A!]! edges: [AsEdge!]! pageInfo: PageInfo! totalCount: Int! "
    ++ codes "}")
    ∷ codes "type AsEdge { cursor: Cursor! node: A! }"
    ∷ codes "enum AsOrderBy { NATURAL I_ASC I_DESC UP_ASC UP_DESC C_ASC C_DESC }"
    ∷ codes "input ACondition { i: Int up: Int c: Hue }"
    ∷ codes "input AInput { i: Int! up: Int! c: Hue }"
    ∷ codes "input APatch { i: Int up: Int c: Hue }"
    ∷ codes "type B { x: Int y: Int! z: Int aByXAndY: A @deprecated(old) aByYAndZ: A aByZAndY: A }"
    ∷ (codes "type BsConnection { nodes: [B!]! edges: [BsEdge!]! pageInfo: PageInfo! totalCount: Int! "
    ++ codes "}")
    ∷ codes "type BsEdge { cursor: Cursor! node: B! }"
    ∷ codes "enum BsOrderBy { NATURAL X_ASC X_DESC Y_ASC Y_DESC Z_ASC Z_DESC }"
    ∷ codes "input BCondition { x: Int y: Int z: Int }"
    ∷ codes "input BInput { x: Int y: Int z: Int }"
    ∷ (codes "type Query { allAs(first: Int, last: Int, offset: Int, before: Cursor, after: Cursor, "
    ++ codes "orderBy: [AsOrderBy!], condition: ACondition): AsConnection aByIAndUp(i: Int!, up: "
    ++ codes "Int!): A allBs(first: Int, last: Int, offset: Int, before: Cursor, after: Cursor, "
    ++ codes "orderBy: [BsOrderBy!], condition: BCondition): BsConnection bByX(x: Int!): B "
    ++ codes "bByYAndZAndX(y: Int!, z: Int!, x: Int!): B }")
    ∷ (codes "type Mutation { createA(input: CreateAInput!): CreateAPayload updateAByIAndUp(input: "
    ++ codes "UpdateAByIAndUpInput!): UpdateAPayload deleteAByIAndUp(input: DeleteAByIAndUpInput!): "
    ++ codes "DeleteAPayload createB(input: CreateBInput!): CreateBPayload deleteBByX(input: "
    ++ codes "DeleteBByXInput!): DeleteBPayload deleteBByYAndZAndX(input: DeleteBByYAndZAndXInput!): "
    ++ codes "DeleteBPayload }")
    ∷ codes "input CreateAInput { clientMutationId: String a: AInput! }"
    ∷ codes "type CreateAPayload { clientMutationId: String a: A }"
    ∷ codes "input UpdateAByIAndUpInput { clientMutationId: String i: Int! up: Int! aPatch: APatch! }"
    ∷ codes "type UpdateAPayload { clientMutationId: String a: A }"
    ∷ codes "input DeleteAByIAndUpInput { clientMutationId: String i: Int! up: Int! }"
    ∷ codes "type DeleteAPayload { clientMutationId: String a: A }"
    ∷ codes "input CreateBInput { clientMutationId: String b: BInput! }"
    ∷ codes "type CreateBPayload { clientMutationId: String b: B }"
    ∷ codes "input DeleteBByXInput { clientMutationId: String x: Int! }"
    ∷ codes "input DeleteBByYAndZAndXInput { clientMutationId: String y: Int! z: Int! x: Int! }"
    ∷ codes "type DeleteBPayload { clientMutationId: String b: B }" ∷ [])

abbrev pub work : CatalogParts → List (List ℕ) → Worked
work c lines = record { catalog = c; schema = lines }

abbrev pub all_worked : List Worked
all_worked =
    work one_table one_table_schema
    ∷ work blog blog_schema
    ∷ work two_keys two_keys_schema
    ∷ work odd_labels odd_labels_schema
    ∷ work to_itself to_itself_schema
    ∷ work one_to_one one_to_one_schema
    ∷ work table_behaviors table_behaviors_schema
    ∷ work column_behaviors column_behaviors_schema
    ∷ work renamed renamed_schema
    ∷ work deprecated deprecated_schema
    ∷ work without_changes without_changes_schema
    ∷ work tagged_links tagged_links_schema ∷ []

-- the catalog has no fault, and this schema
abbrev pub IsWorked : Worked → Type 0
IsWorked w = (build_fault w.catalog ≡ None) × (outline (schema_of w.catalog) ≡ w.schema)
